-- Tables that were printed are read and added.
use Rattle.std.specs.{List.AllZip, Prelude.{◌≡◌, ◌⊎◌, ℕ, ◌+◌, ◌<◌, ◌≤◌, ◌^◌, List, [], ◌∷◌, length}}
use Rattle.span_tasks.specs.{Bytes, FileCountFault, NotTableFault, OtherColumnsFault, number_of, fault_line, run_line, unread_line, AreFirst, SourceBytes, Name, printed, Chooses, HasOtherSchema, HasSchema, IsNoPart, LacksAsked, PartSum, SumsParts, TakesPart, SpanTable, TableOptions, Summed.asked_of}
use Rattle.span_parts.specs.declared.fault.PartFault.{PartFault, TheVariants.{NotTable, OtherColumns}}

-- the most bytes that a table may have
abbrev pub most_added : ℕ
most_added = 1099511627776

-- the bytes of a name as far as they are read: one more than a table may have
abbrev pub IsRead : SourceBytes → Name → Bytes → Type 0
IsRead source name text = AreFirst (most_added + 1) (source name) text

-- the text is all that the name stands for, and not too long for a table
pub record IsText (source : SourceBytes) (name : Name) (text : Bytes) : Type 0 where
  pub read : IsRead source name text
  pub within : length text ≤ most_added

-- a sum in the unit and of the schema of these parts, with what is chosen of it, that is this table
abbrev pub with_sum : PartSum → SpanTable → PartSum
with_sum parts table = record { unit = parts.unit; schema = parts.schema; choice = parts.choice; sum = table }

-- the table is the sum of the tables of these names, each of which has the unit and the schema of these parts
pub record Adds (source : SourceBytes) (parts : PartSum) (names : List Name) (table : SpanTable) : Type 0 where
  pub texts : List Bytes
  pub read : AllZip (IsText source) names texts
  pub sums : SumsParts texts (with_sum parts table)

-- a table of each of these names
abbrev pub AddsEach : SourceBytes → PartSum → List Name → List SpanTable → Type 0
AddsEach source parts names tables = AllZip (λ name table. Adds source parts (name ∷ []) table) names tables

-- the sum of the tables of these names, each of which is of the kind of these parts
pub record AddsBeside (source : SourceBytes) (kind : PartSum) (names : List Name) (sum : PartSum) : Type 0 where
  pub texts : List Bytes
  pub read : AllZip (IsText source) names texts
  pub unit : sum.unit ≡ kind.unit
  pub schema : sum.schema ≡ kind.schema
  pub choice : sum.choice ≡ kind.choice
  pub sums : SumsParts texts sum

-- the table of this name is of the kind of these parts
abbrev pub IsOfKind : SourceBytes → Name → PartSum → Type 0
IsOfKind source name parts = (text : Bytes) × IsText source name text × HasSchema parts.schema parts.unit text

-- the table of the first of these names is of the kind of these parts, which have what is asked for
abbrev pub AreOfFirst : SourceBytes → TableOptions → List Name → PartSum → Type 0
AreOfFirst source options [] parts = ⊥
AreOfFirst source options (name ∷ later) parts = Chooses (asked_of options) parts × IsOfKind source name parts

-- this is said of a name that was not read, or whose text is too long for a table, or is none
abbrev pub IsNoTable : SourceBytes → Name → Bytes → Type 0
IsNoTable source name lines = (lines ≡ unread_line (printed name))
    ⊎ (((text : Bytes) × IsRead source name text × (most_added < length text) × (lines ≡ fault_line (printed name) (number_of NotTableFault)))
    ⊎ ((text : Bytes) × IsText source name text × IsNoPart text × (lines ≡ fault_line (printed name) (number_of NotTableFault))))

-- this is said of a name at which adding stops: there is no such table, or it is one of another kind
abbrev pub StopsAdding : SourceBytes → (Bytes → Type 0) → Name → Bytes → Type 0
StopsAdding source IsOther name lines = IsNoTable source name lines
    ⊎ ((text : Bytes) × IsText source name text × IsOther text × (lines ≡ fault_line (printed name) (number_of OtherColumnsFault)))

-- this is said of the first of these names, whose table is of another kind than these parts
abbrev pub StopsNext : SourceBytes → PartSum → List Name → Bytes → Type 0
StopsNext source parts [] lines = ⊥
StopsNext source parts (name ∷ later) lines = StopsAdding source (HasOtherSchema parts.schema parts.unit) name lines

-- there are 2^32 names or more, as the line says
abbrev pub AreTooMany : List Name → Bytes → Type 0
AreTooMany names lines = (2 ^ 32 ≤ length names) × (lines ≡ run_line (number_of FileCountFault))

-- this is said of the first name, whose table begins parts, or there is none
abbrev pub StopsFirst : SourceBytes → TableOptions → List Name → Bytes → Type 0
StopsFirst source options [] lines = lines ≡ run_line (number_of FileCountFault)
StopsFirst source options (name ∷ later) lines = StopsAdding source (LacksAsked (asked_of options)) name lines

-- the parts are of the table of this name alone
pub record BeginsWith (source : SourceBytes) (name : Name) (parts : PartSum) : Type 0 where
  pub text : Bytes
  pub read : IsText source name text
  pub sums : SumsParts (text ∷ []) parts

-- parts take the table of this name
pub record TakesName (source : SourceBytes) (name : Name) (old new : PartSum) : Type 0 where
  pub text : Bytes
  pub read : IsText source name text
  pub takes : TakesPart text old new

-- the table of this name, of the kind of these parts
abbrev pub IsTableBeside : SourceBytes → PartSum → Name → SpanTable → Type 0
IsTableBeside source parts name table = Adds source parts (name ∷ []) table

-- what is said of a table that is refused for this
abbrev pub SaysPart : Name → PartFault → Bytes → Type 0
SaysPart name NotTable lines = lines ≡ fault_line (printed name) (number_of NotTableFault)
SaysPart name OtherColumns lines = lines ≡ fault_line (printed name) (number_of OtherColumnsFault)
SaysPart name fault lines = ⊥

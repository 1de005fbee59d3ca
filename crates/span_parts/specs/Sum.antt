-- Parts that are read and added.
use Rattle.std.specs.{Global.Vec, Prelude.{◌≡◌, ◌≢◌, ℕ, List, [], ◌∷◌, ◌++◌, All, map, slice_get, Option, Some, None}}
use Rattle.span_parts.specs.{AskedNumbers, Bytes, Unit as TimeUnit, Column, AreAmong, Choice, add_tables, chosen_from, schema_by, shown_numbers, with_counts, IsPart, IsPrint, IsSchema, Schema, SpanTable, Wanted, shown_table, Rows.with_rows, declared.fault.PartFault.{PartFault, TheVariants.{NotTable, OtherColumns, Memory, TooMany}}}

-- what a sum of parts is seen as: the unit and the schema of each part, what the sum has of it, and the sum
pub record PartSum : Type 0 where
  pub unit : TimeUnit
  pub schema : Schema
  pub choice : Choice
  pub sum : SpanTable

-- a sum of parts of this schema has what is chosen of it
pub record IsByThese (schema : Schema) (choice : Choice) (sum : SpanTable) : Type 0 where
  pub fit : IsSchema schema
  pub by : sum.schema ≡ schema_by choice schema

-- what is asked of parts: the columns that are shown and those that conditions test, and the numbers
pub record Asked : Type 0 where
  pub shown : List Column
  pub tested : List Column
  pub numbers : AskedNumbers

-- the columns that are named; where none is, all
abbrev pub named_or_all : List Column → List Column → List Column
named_or_all [] columns = columns
named_or_all (column ∷ named) columns = column ∷ named

-- the columns that are asked for: those that are shown, and behind them those that conditions test
abbrev pub chosen : List Column → List Column → List Column → List Column
chosen shown tested columns = named_or_all shown columns ++ tested

-- these columns stand at these places of those
abbrev pub AreAt : List ℕ → List Column → List Column → Type 0
AreAt places wanted columns = map (slice_get columns) places ≡ map Some wanted

-- this is what is asked for of a schema, which has it
pub record ChoosesOf (asked : Asked) (schema : Schema) (choice : Choice) : Type 0 where
  pub columns : AreAt choice.places (chosen asked.shown asked.tested schema.columns) schema.columns
  pub numbers : choice.numbers ≡ shown_numbers asked.numbers schema.of schema.numbers
  pub among : AreAmong choice.numbers schema.numbers

-- the sum has what is asked for, which each part has
abbrev pub Chooses : Asked → PartSum → Type 0
Chooses asked sum = ChoosesOf asked sum.schema sum.choice

-- each text is a part in this unit, of the table at its place
abbrev pub AreParts : TimeUnit → List Bytes → List SpanTable → Type 0
AreParts unit [] [] = Unit {0}
AreParts unit (text ∷ texts) (part ∷ parts) = IsPart unit text part × AreParts unit texts parts
AreParts unit texts parts = ⊥

-- the parts of these texts are added, all of the same schema
pub record SumsParts (texts : List Bytes) (sum : PartSum) : Type 0 where
  pub parts : List SpanTable
  pub are : AreParts sum.unit texts parts
  pub schemas : All (λ part. part.schema ≡ sum.schema) parts
  pub adds : sum.sum ≡ add_tables (schema_by sum.choice sum.schema) (map (chosen_from sum.choice) parts)

-- one sum is that of another's parts and of one part more, which has the same schema and unit
pub record TakesPart (text : Bytes) (old new : PartSum) : Type 0 where
  pub unit : new.unit ≡ old.unit
  pub schema : new.schema ≡ old.schema
  pub choice : new.choice ≡ old.choice
  pub sums : (texts : List Bytes) → SumsParts texts old → SumsParts (texts ++ text ∷ []) new

-- the sum of one part, with what is asked for
pub record TakesFirst (asked : Asked) (text : Bytes) (sum : PartSum) : Type 0 where
  pub chooses : Chooses asked sum
  pub sums : SumsParts (text ∷ []) sum

-- the sum of no parts, which are to have the schema and unit of another's
pub record TakesNone (other sum : PartSum) : Type 0 where
  pub unit : sum.unit ≡ other.unit
  pub schema : sum.schema ≡ other.schema
  pub choice : sum.choice ≡ other.choice
  pub sums : SumsParts [] sum

-- the sum of the parts of two sums, where these have the same schema and unit, and the same is chosen
pub record JoinsParts (one other both : PartSum) : Type 0 where
  pub unit : both.unit ≡ one.unit
  pub schema : both.schema ≡ one.schema
  pub choice : both.choice ≡ one.choice
  pub sums : (texts more : List Bytes) → other.unit ≡ one.unit → other.schema ≡ one.schema → other.choice ≡ one.choice → SumsParts texts one → SumsParts more other → SumsParts (texts ++ more) both

-- the text is of no table
abbrev pub IsNoPart : Bytes → Type 0
IsNoPart text = (unit : TimeUnit) (part : SpanTable) → IsPart unit text part → ⊥

-- the text is of a table of this schema, in this unit
pub record HasSchema (schema : Schema) (unit : TimeUnit) (text : Bytes) : Type 0 where
  pub part : SpanTable
  pub is : IsPart unit text part
  pub by : part.schema ≡ schema

-- the text is of a table of another schema, or in another unit
pub record HasOtherSchema (schema : Schema) (unit : TimeUnit) (text : Bytes) : Type 0 where
  pub own : TimeUnit
  pub part : SpanTable
  pub is : IsPart own text part
  pub other : own ≡ unit → part.schema ≢ schema

-- the text is of a table that lacks a column or a number that is asked for
pub record LacksAsked (asked : Asked) (text : Bytes) : Type 0 where
  pub unit : TimeUnit
  pub part : SpanTable
  pub is : IsPart unit text part
  pub lacks : (choice : Choice) → ChoosesOf asked part.schema choice → ⊥

-- why a first part is not added
abbrev pub FirstFails : Asked → Bytes → PartFault → Type 0
FirstFails asked text NotTable = IsNoPart text
FirstFails asked text OtherColumns = LacksAsked asked text
FirstFails asked text Memory = Unit {0}
FirstFails asked text TooMany = Unit {0}

-- why one of several of this schema, in this unit, is not added
abbrev pub PartFails : Schema → TimeUnit → Bytes → PartFault → Type 0
PartFails schema unit text NotTable = IsNoPart text
PartFails schema unit text OtherColumns = HasOtherSchema schema unit text
PartFails schema unit text Memory = Unit {0}
PartFails schema unit text TooMany = Unit {0}

-- why a text doesn't begin as a part does
abbrev pub FailsToBegin : Bytes → PartFault → Type 0
FailsToBegin text NotTable = IsNoPart text
FailsToBegin text OtherColumns = ⊥
FailsToBegin text Memory = Unit {0}
FailsToBegin text TooMany = ⊥

-- where these columns stand among those; there is no such place where one doesn't
abbrev pub FindsPlaces : List Column → List Column → Option (Vec ℕ) → Type 0
FindsPlaces wanted columns None = (places : List ℕ) → AreAt places wanted columns → ⊥
FindsPlaces wanted columns (Some found) = AreAt found.items wanted columns

-- the part of this text, which has this schema and unit, was added: its counts, and what is chosen of its rows
pub record IsAdded (schema : Schema) (unit : TimeUnit) (choice : Choice) (text : Bytes) (old new : SpanTable) : Type 0 where
  pub part : SpanTable
  pub is : IsPart unit text part
  pub by : part.schema ≡ schema
  pub sum : new ≡ with_rows choice part.rows (with_counts old part.counts)

-- why a part that begins well is not added: its rows are none, or the sum's doing
abbrev pub SumFails : Bytes → PartFault → Type 0
SumFails text NotTable = IsNoPart text
SumFails text OtherColumns = ⊥
SumFails text Memory = Unit {0}
SumFails text TooMany = Unit {0}

-- why a text that begins well is refused though it may be a part: for its schema or its unit
abbrev pub RefusesOthers : Schema → TimeUnit → Bytes → PartFault → Type 0
RefusesOthers schema unit text NotTable = IsNoPart text
RefusesOthers schema unit text OtherColumns = HasSchema schema unit text
RefusesOthers schema unit text Memory = Unit {0}
RefusesOthers schema unit text TooMany = Unit {0}

-- what is printed of the rows that are shown of a sum is a part, if its schema is one that a table may have, with numbers that its parts have
abbrev pub SumsAreParts : Type 0
SumsAreParts = (texts : List Bytes) (sum : PartSum) (wanted : Wanted) (text : Bytes) → SumsParts texts sum → AreAmong sum.choice.numbers sum.schema.numbers → IsSchema (schema_by sum.choice sum.schema) →
    IsPrint sum.unit text (shown_table wanted sum.sum) → IsPart sum.unit text (shown_table wanted sum.sum)

-- Tables as they are gathered: those of one side, or of two that are compared.
use Rattle.std.specs.Prelude.{◌≡◌, ◌⊎◌, ⊤, Bool, true, false, List, [], ◌∷◌, ◌++◌, map, MatchResult, Result}
use Rattle.span_request.specs.declared.tasks.Items.TheVariants.{Apart as EachApart, Printed, Together}
use Rattle.span_tasks.specs.{Bytes, AreSeparate, Settings, warnings_of, AreGathered, shortened, Listed, Halt, OfStop, StopsAmong, run_in_turn, run_of_files, table_of_run, SourceBytes, Name, PartSum, Run, Schema, SpanTable, schema_by, table_of, Items, Narrowing, TableOptions, narrowed, shown_schema, Summed.summed_of, Added.{Adds, AddsBeside, AddsEach, AreOfFirst, AreTooMany, BeginsWith, StopsFirst, StopsNext}, Together.{EndsWell, StopsTogether}, declared.{printed.PrintedBase.PrintedBase, side.Side.Side, together.TogetherRun.TogetherRun}}

-- one table of all runs, or a table of each
abbrev pub ComeTo : Bool → Schema → List Run → List SpanTable → Type 0
ComeTo false schema runs tables = tables ≡ table_of schema runs ∷ []
ComeTo true schema runs tables = tables ≡ map (table_of_run schema) runs

-- one table of all printed ones, or a table of each
abbrev pub AddTo : Bool → SourceBytes → PartSum → List Name → List SpanTable → Type 0
AddTo false source parts names tables = (table : SpanTable) × Adds source parts names table × (tables ≡ table ∷ [])
AddTo true source parts names tables = AddsEach source parts names tables

-- the first of these names were added, and this is said of the next
pub record StopsLater (source : SourceBytes) (each : Bool) (parts : PartSum) (names : List Name) (lines : Bytes) : Type 0 where
  pub done : List Name
  pub later : List Name
  pub split : names ≡ done ++ later
  pub tables : List SpanTable
  pub added : AddTo each source parts done tables
  pub cause : StopsNext source parts later lines

-- the tables of these names are added, or this is said of one
abbrev pub AddsOrStops : SourceBytes → PartSum → List Name → Result PartSum Halt → Type 0
AddsOrStops source kind names result = MatchResult result (AddsBeside source kind names) (OfStop (StopsLater source false kind names))

-- the tables of these names are added behind those that gave this sum, or this is said of one
abbrev pub AddsBehind : SourceBytes → PartSum → List Name → Result PartSum Halt → Type 0
AddsBehind source sum names result = MatchResult result (λ both. (kind : PartSum) (done : List Name) → AddsBeside source kind done sum → AddsBeside source kind (done ++ names) both)
    (OfStop (λ lines. (kind : PartSum) (done : List Name) → AddsBeside source kind done sum → StopsLater source false kind (done ++ names) lines))

-- the tables of these names are added to that of a first name, with which parts begin, or this is said of one
abbrev pub AddsToFirst : SourceBytes → PartSum → List Name → Result PartSum Halt → Type 0
AddsToFirst source first later result = MatchResult result (λ sum. (name : Name) → BeginsWith source name first → AddsBeside source first (name ∷ later) sum)
    (OfStop (λ lines. (name : Name) → BeginsWith source name first → StopsLater source false first (name ∷ later) lines))

-- where this is what becomes of the tables of these names, and that of those, the result is what becomes of them together
abbrev pub JoinsSums : Result PartSum Halt → Result PartSum Halt → Result PartSum Halt → Type 0
JoinsSums first second both = (source : SourceBytes) (kind : PartSum) (names more : List Name) → AddsOrStops source kind names first → AddsOrStops source kind more second → AddsOrStops source kind (names ++ more) both

-- What is named is one run, whose table this is; that of separate files is the one that they give where they are read in turn.
pub record IsOfRun (source : SourceBytes) (names : List Name) (settings : Settings) (options : TableOptions) (side : Side) : Type 0 where
  pub run : TogetherRun
  pub ended : EndsWell source names settings run
  pub is : side.tables.items ≡ table_of_run (summed_of options) (run_of_files run.inputs.items run.collected.end.ends.items run.collected.ledger.journal) ∷ []
  pub in_turn : AreSeparate settings.format run.inputs.items → side.tables.items ≡ table_of_run (summed_of options) (run_in_turn settings run.inputs.items) ∷ []
  pub said : side.said.lines.items ≡ run.lines.items
  pub warned : side.said.warnings.items ≡ warnings_of run.inputs.items run.collected.end.ends.items run.collected.ledger.journal

-- the tables are of what is asked for
pub record AreOptions (settings : Settings) (options : TableOptions) (side : Side) : Type 0 where
  pub unit : side.unit ≡ settings.format.unit
  pub schema : side.schema ≡ summed_of options

-- the tables are of what printed ones are
pub record AreOfParts (parts : PartSum) (side : Side) : Type 0 where
  pub unit : side.unit ≡ parts.unit
  pub schema : side.schema ≡ schema_by parts.choice parts.schema

-- these are the tables of printed ones, of which nothing is said
abbrev pub IsPrintedSide : SourceBytes → Bool → PartSum → List Name → Side → Type 0
IsPrintedSide source each parts names side = AreOfParts parts side × AddTo each source parts names side.tables.items × (side.said.lines.items ≡ [])

-- what is named gives these tables; where they are printed ones, they are of the kind of these parts
abbrev pub Gathers : SourceBytes → Items → TableOptions → Bool → PartSum → Listed → Side → Type 0
Gathers source (Together settings) options each parts files side = AreOptions settings options side × IsOfRun source files.names.items settings options side
Gathers source (EachApart settings) options each parts files side = AreOptions settings options side
    × AreGathered source files.names.items settings (λ runs. shortened files.cut (ComeTo each (summed_of options)) runs side.tables.items) side.said
Gathers source Printed options each parts files side = IsPrintedSide source each parts files.names.items side

-- the first of printed tables is of this kind, and has the columns and the numbers that are asked for
abbrev pub AreOfKind : SourceBytes → Items → TableOptions → List Name → PartSum → Type 0
AreOfKind source Printed options names parts = AreOfFirst source options names parts
AreOfKind source items options names parts = ⊤

-- this is said where what is named gives no tables of the kind of these parts
abbrev pub StopsSide : SourceBytes → Items → Bool → PartSum → List Name → Bytes → Type 0
StopsSide source (Together settings) each parts names lines = StopsTogether source names settings lines
StopsSide source (EachApart settings) each parts names lines = StopsAmong source settings names lines
StopsSide source Printed each parts names lines = StopsLater source each parts names lines ⊎ AreTooMany names lines

-- one side as it is gathered
pub record IsGathered (source : SourceBytes) (items : Items) (options : TableOptions) (each : Bool) (files : Listed) (side : Side) : Type 0 where
  pub parts : PartSum
  pub kind : AreOfKind source items options files.names.items parts
  pub is : Gathers source items options each parts files side

-- two sides as they are gathered, which give tables of one kind
pub record AreBothGathered (source : SourceBytes) (items : Items) (options : TableOptions) (each : Bool) (base_files files : Listed) (base other : Side) : Type 0 where
  pub parts : PartSum
  pub kind : AreOfKind source items options base_files.names.items parts
  pub earlier : Gathers source items options each parts base_files base
  pub later : Gathers source items options each parts files other

-- a side's tables are narrowed, and are by the columns that are shown
pub record IsNarrowed (narrowing : Narrowing) (old new : Side) : Type 0 where
  pub unit : new.unit ≡ old.unit
  pub schema : new.schema ≡ shown_schema narrowing old.schema
  pub tables : new.tables.items ≡ map (narrowed narrowing) old.tables.items
  pub said : new.said ≡ old.said

-- one side
pub record IsOneSide (source : SourceBytes) (items : Items) (options : TableOptions) (each : Bool) (files : Listed) (side : Side) : Type 0 where
  pub all : Side
  pub gathered : IsGathered source items options each files all
  pub narrows : IsNarrowed options.narrowing all side

-- two sides, which give tables of one kind
pub record AreSides (source : SourceBytes) (items : Items) (options : TableOptions) (each : Bool) (base_files files : Listed) (base other : Side) : Type 0 where
  pub all_base : Side
  pub all_other : Side
  pub gathered : AreBothGathered source items options each base_files files all_base all_other
  pub narrows_base : IsNarrowed options.narrowing all_base base
  pub narrows_other : IsNarrowed options.narrowing all_other other

-- the first of printed tables tells the kind, or this is said of it, or of their number
abbrev pub StopsKind : SourceBytes → Items → TableOptions → List Name → Bytes → Type 0
StopsKind source Printed options names lines = StopsFirst source options names lines ⊎ AreTooMany names lines
StopsKind source items options names lines = ⊥

-- this is said where a side gives no tables
abbrev pub StopsOneSide : SourceBytes → Items → TableOptions → Bool → List Name → Bytes → Type 0
StopsOneSide source items options each names lines = StopsKind source items options names lines
    ⊎ ((parts : PartSum) × AreOfKind source items options names parts × StopsSide source items each parts names lines)

-- the base gives tables, and the others don't, of which this is said behind the base's lines
pub record StopsBehind (source : SourceBytes) (items : Items) (options : TableOptions) (each : Bool) (base_files files : Listed) (lines : Bytes) : Type 0 where
  pub parts : PartSum
  pub kind : AreOfKind source items options base_files.names.items parts
  pub base : Side
  pub earlier : Gathers source items options each parts base_files base
  pub own : Bytes
  pub later : StopsSide source items each parts files.names.items own
  pub said : lines ≡ base.said.lines.items ++ own

-- this is said where one of two sides gives no tables
abbrev pub StopSides : SourceBytes → Items → TableOptions → Bool → Listed → Listed → Bytes → Type 0
StopSides source items options each base_files files lines =
    StopsOneSide source items options each base_files.names.items lines ⊎ StopsBehind source items options each base_files files lines

-- printed tables are of the kind of these parts, which is the one that is asked for
pub record IsPrintedBase (source : SourceBytes) (options : TableOptions) (each : Bool) (names : List Name) (base : PrintedBase) : Type 0 where
  pub asked : AreOfFirst source options names base.kind
  pub is : IsPrintedSide source each base.kind names base.side

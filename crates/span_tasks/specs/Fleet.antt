-- Files that are summed on many machines, and tables that are added in whatever groups.
use Rattle.std.specs.{List.{AllZip, Sorted.IsPermutation}, Prelude.{◌≡◌, ◌⊎◌, Bool, true, false, List, [], ◌∷◌, ◌++◌, map, All, Contains, Some}}
use Rattle.span_request.specs.declared.tasks.Items.TheVariants.{Apart as EachApart, Printed, Together}
use Rattle.span_tasks.specs.{Bytes, Input, Settings, IsAccounted, run_alone, run_of_files, AreInputs, Listed, shorter, SourceBytes, TimeUnit, Schema, Run, table_of, IsPrint, Wanted, shown_numbers, shown_table, chosen, is_plain, Items, TableOptions, Summed.{schema_of, tested_in}, Tabulations.MakesJson, Together.EndsWell, declared.together.TogetherRun.TogetherRun}

mutual
  -- A run of the program that prints a table as JSON Lines: of files, each apart or together, or of tables that others printed.
  pub data Fleet : Type 0 where
    of_files : SourceBytes → Bool → Settings → TableOptions → Listed → Fleet
    of_printed : SourceBytes → TableOptions → Listed → Fleets → Fleet

  -- one such run or more
  pub data Fleets : Type 0 where
    one : Fleet → Fleets
    more : Fleet → Fleets → Fleets

abbrev pub items_of : Bool → Settings → Items
items_of true settings = EachApart settings
items_of false settings = Together settings

abbrev mutual
  -- the fleet prints this text; where it adds tables, each name stands for what one of its parts prints
  pub Prints : Fleet → Bytes → Type 0
  Prints (of_files source apart settings options listed) text = MakesJson source (items_of apart settings) options listed text
  Prints (of_printed source options listed parts) text = MakesJson source Printed options listed text
      × ((texts : List Bytes) × AllZip (λ name held. source name ≡ Some held) listed.names.items texts × PrintEach parts texts)

  pub PrintEach : Fleets → List Bytes → Type 0
  PrintEach (one part) (text ∷ []) = Prints part text
  PrintEach (more part parts) (text ∷ texts) = Prints part text × PrintEach parts texts
  PrintEach parts texts = ⊥

-- the runs of these files: of each alone, or of all together
abbrev pub AreRunsOfFiles : SourceBytes → Bool → Settings → Listed → List Run → Type 0
AreRunsOfFiles source true settings listed runs = (files : List Input) × AreInputs source settings listed.names.items files × All (IsAccounted settings) files × (runs ≡ map (shorter listed.cut) (map (run_alone settings) files))
AreRunsOfFiles source false settings listed runs = (run : TogetherRun) × EndsWell source listed.names.items settings run
    × (runs ≡ run_of_files run.inputs.items run.collected.end.ends.items run.collected.ledger.journal ∷ [])

abbrev mutual
  -- the runs of all files of a fleet
  pub AreRunsOf : Fleet → List Run → Type 0
  AreRunsOf (of_files source apart settings options listed) runs = AreRunsOfFiles source apart settings listed runs
  AreRunsOf (of_printed source options listed parts) runs = AreRunsOfEach parts runs

  pub AreRunsOfEach : Fleets → List Run → Type 0
  AreRunsOfEach (one part) runs = AreRunsOf part runs
  AreRunsOfEach (more part parts) runs = (own : List Run) × (later : List Run) × AreRunsOf part own × AreRunsOfEach parts later × (runs ≡ own ++ later)

-- the unit and the schema of a table
pub record TableKind : Type 0 where
  pub unit : TimeUnit
  pub schema : Schema

-- what is asked for of tables of a schema: columns, and numbers, which are among theirs where the tables are added
abbrev pub asked_schema : TableOptions → Schema → Schema
asked_schema options schema =
    record { of = schema.of; columns = chosen options.columns.items (tested_in options) schema.columns; numbers = shown_numbers options.numbers schema.of schema.numbers }

abbrev mutual
  -- the kind of what a fleet prints
  pub kind_of : Fleet → TableKind
  kind_of (of_files source apart settings options listed) = record { unit = settings.format.unit; schema = schema_of options }
  kind_of (of_printed source options listed parts) = record { unit = (kind_of_first parts).unit; schema = asked_schema options (kind_of_first parts).schema }

  -- that of the first of some tables, which the others have too
  pub kind_of_first : Fleets → TableKind
  kind_of_first (one part) = kind_of part
  kind_of_first (more part parts) = kind_of part

-- all rows
abbrev pub all_rows : Wanted
all_rows = record { only = []; skip = [] }

-- no column of tables that are added is dropped
abbrev pub KeepsColumns : TableOptions → Fleets → Type 0
KeepsColumns options parts = All (Contains (chosen options.columns.items (tested_in options) (kind_of_first parts).schema.columns)) (kind_of_first parts).schema.columns

abbrev mutual
  -- A fleet, of which nothing is narrowed, shows these rows: it is asked for them, of all rows of its parts; or each of the parts shows
  -- them, none of their columns is dropped, and it is asked for the same, or for all.
  pub Shows : Wanted → Fleet → Type 0
  Shows wanted (of_files source apart settings options listed) = (is_plain options.narrowing ≡ true) × (options.shown ≡ wanted)
  Shows wanted (of_printed source options listed parts) = (is_plain options.narrowing ≡ true)
      × (((options.shown ≡ wanted) × ShowEach all_rows parts) ⊎ (((options.shown ≡ wanted) ⊎ (options.shown ≡ all_rows)) × KeepsColumns options parts × ShowEach wanted parts))

  pub ShowEach : Wanted → Fleets → Type 0
  ShowEach wanted (one part) = Shows wanted part
  ShowEach wanted (more part parts) = Shows wanted part × ShowEach wanted parts

-- Whatever a fleet prints is the table of the runs of all its files, or the rows of it that it shows.
abbrev pub FleetsLoseNothing : Type 0
FleetsLoseNothing = (wanted : Wanted) (fleet : Fleet) (text : Bytes) → Shows wanted fleet → Prints fleet text →
    (runs : List Run) × AreRunsOf fleet runs × IsPrint (kind_of fleet).unit text (shown_table wanted (table_of (kind_of fleet).schema runs))

-- whatever the runs of the files of one fleet are, they are those of the other, in some order
abbrev pub HaveSameRuns : Fleet → Fleet → Type 0
HaveSameRuns fleet other = (runs others : List Run) → AreRunsOf fleet runs → AreRunsOf other others → IsPermutation runs others

-- So two fleets of the same files print alike, however these are divided.
abbrev pub FleetsPrintAlike : Type 0
FleetsPrintAlike = (wanted : Wanted) (fleet other : Fleet) (text other_text : Bytes) → HaveSameRuns fleet other → kind_of fleet ≡ kind_of other → Shows wanted fleet → Shows wanted other
    → Prints fleet text → Prints other other_text → text ≡ other_text

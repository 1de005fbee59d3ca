-- The columns that a command line names, and those of a text where it names none.
use Rattle.std.specs.{List.list_any, Prelude.{◌≡◌, ◌≤◌, if◌then◌else◌, Bool, true, false, List, [], ◌∷◌, All, is_some, length, map, Option, Some, None}}
use Rattle.span_request.specs.{Async, Bytes, Cat, Column, File, Name, Of, Options, Pid, Process, Spans, Thread, Tid, column_name, is_argument, is_column, Lists.{has_twice, is_comma, names_in}, Texts.{are_given, most_rows}}

abbrev pub has_comma : Bytes → Bool
has_comma text = list_any is_comma text

-- the name is that of this column, or of none
abbrev pub IsNamed : Bytes → Column → Type 0
IsNamed name column = (column_name column ≡ name) × (is_column column ≡ true)

abbrev pub NamesNone : Bytes → Type 0
NamesNone name = (column : Column) → IsNamed name column → ⊥

-- each name is that of a column
abbrev pub AreEach : List Bytes → List Column → Type 0
AreEach names columns = (map column_name columns ≡ names) × All (λ column. is_column column ≡ true) columns

-- the columns of these names: at most eight, and none twice
pub record AreNamed (names : List Bytes) (columns : List Column) : Type 0 where
  pub each : AreEach names columns
  pub few : length names ≤ 8
  pub once : has_twice names ≡ false

-- those of a ranking: a row is a thread's name
abbrev pub ranked : List Column
ranked = Pid ∷ Tid ∷ Thread ∷ Name ∷ []

-- those of a page: what its report has of a span
abbrev pub paged : List Column
paged = Pid ∷ Process ∷ Tid ∷ Thread ∷ Name ∷ []

-- those of a comparison and of rows for other programs: numbers differ from run to run
abbrev pub alike : List Column
alike = Process ∷ Thread ∷ Name ∷ []

-- those of the text that is asked for, where none are named; of tables that are added, their own
abbrev pub usual_columns : Of → Options → List Column
usual_columns Async options = if options.add then [] else (Cat ∷ Name ∷ [])
usual_columns Spans options =
    if options.add then [] else if are_given options.base.items then alike else if is_some (most_rows options) then ranked else if options.folded then (Name ∷ []) else if options.page then paged else alike

abbrev pub AreGiven : Of → Options → Option Bytes → List Column → Type 0
AreGiven of options None columns = columns ≡ usual_columns of options
AreGiven of options (Some names) columns = AreNamed (names_in names) columns

-- the columns that the options ask for
abbrev pub AreAsked : Of → Options → List Column → Type 0
AreAsked of options columns = AreGiven of options options.group_by columns

-- a span has a value of its own in the column, and not that of its process, thread or file
abbrev pub is_of_span : Column → Bool
is_of_span Name = true
is_of_span column = is_argument column

abbrev pub is_file : Column → Bool
is_file File = true
is_file column = false

-- A page of several runs.
use Rattle.std.specs.{List.join_with_byte, Prelude.{◌≡◌, ℕ, Bool, true, false, List, [], ◌∷◌, ◌++◌, codes, Option, Some, None}}
use Rattle.span_page.specs.{Unit, Entry, rows_by_process, FileEnd, Input, Row, json_text_of, report_of, SpanColumn, Bounds.IsTooLong, Data.{array_of, left_behind, most_frames, rest_of, threads_of}, Graph.rows_json, Page.{text_before, text_behind}, Safe.safe}

-- a run as a page shows it: its files, how they ended, and the journal
pub record ShownRun : Type 0 where
  pub files : List Input
  pub ends : List FileEnd
  pub journal : List Entry

module _ (labels : List SpanColumn) where
  -- how many frames are left behind it
  abbrev pub left_behind_run : ℕ → ShownRun → ℕ
  left_behind_run left run = left_behind labels run.journal left (threads_of (rows_by_process run.journal))

  -- how many frames are left behind them
  abbrev pub left_behind_runs : ℕ → List ShownRun → ℕ
  left_behind_runs left [] = left
  left_behind_runs left (run ∷ later) = left_behind_runs (left_behind_run left run) later

module _ (unit : Unit) (labels : List SpanColumn) where
  -- a run whose graphs fit into so many frames
  abbrev pub run_json : ℕ → ShownRun → List ℕ
  run_json left run = codes "{\"report\":" ++ (json_text_of (report_of unit run.journal) ++ rest_of unit left labels run.files run.ends run.journal)

  -- runs one after another, as their graphs fit into what those before them leave
  abbrev pub runs_json : ℕ → List ShownRun → List (List ℕ)
  runs_json left [] = []
  runs_json left (run ∷ later) = run_json left run ∷ runs_json (left_behind_run labels left run) later

-- the data of the runs, the text of a table of spans, and the graph of stacks that were added
abbrev pub runs_data : Unit → List SpanColumn → List ℕ → List Row → List ShownRun → List ℕ
runs_data unit labels table stacks runs =
    codes "{\"runs\":" ++ (array_of (runs_json unit labels most_frames runs)
    ++ (codes ",\"table\":" ++ (json_text_of table ++ (codes ",\"graph\":" ++ (rows_json stacks ++ codes "}")))))

-- a fixed text, the data, and another fixed text
unfoldable pub page_of_runs : Unit → List SpanColumn → List ℕ → List Row → List ShownRun → List ℕ
page_of_runs unit labels table stacks runs = text_before ++ (safe (runs_data unit labels table stacks runs) ++ text_behind)

-- a page of runs so far: its text, how many frames are left, and whether it has a run
pub record BegunPage : Type 0 where
  pub text : List ℕ
  pub left : ℕ
  pub has_run : Bool

-- the text so far of a page of these runs in this unit, with labels by these columns
abbrev pub begun_text : Unit → List SpanColumn → List ShownRun → List ℕ
begun_text unit labels runs = text_before ++ (codes "{\"runs\":[" ++ safe (join_with_byte 44 (runs_json unit labels most_frames runs)))

-- whether there is a run
abbrev pub are_some : List ShownRun → Bool
are_some [] = false
are_some (run ∷ later) = true

-- the page has these runs so far
pub record Begins (unit : Unit) (labels : List SpanColumn) (runs : List ShownRun) (page : BegunPage) : Type 0 where
  pub text : page.text ≡ begun_text unit labels runs
  pub left : page.left ≡ left_behind_runs labels most_frames runs
  pub some : page.has_run ≡ are_some runs

-- the page has these runs so far; or nothing of it is kept, and with these runs it is too long
abbrev pub Holds : Unit → List SpanColumn → List ShownRun → Option BegunPage → Type 0
Holds unit labels runs None = IsTooLong (begun_text unit labels runs)
Holds unit labels runs (Some page) = Begins unit labels runs page

-- one more run is taken
abbrev pub TakesRun : Unit → List SpanColumn → ShownRun → Option BegunPage → Option BegunPage → Type 0
TakesRun unit labels run old new = (runs : List ShownRun) → Holds unit labels runs old → Holds unit labels (runs ++ run ∷ []) new

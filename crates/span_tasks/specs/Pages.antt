-- A page of files each of which is a run of its own.
use Rattle.std.specs.Prelude.{◌≡◌, ◌⊎◌, ℕ, nat_le, if◌then◌else◌, List, [], ◌∷◌, ◌++◌, length, map, Result, MatchResult}
use Rattle.span_tasks.specs.{Bytes, Unit, Input, Settings, ends_from, journal_in_turn, Holds, ShownRun, TakesRun, page_of_runs, FileRun, AddsFile, GathersFiles, IsSumOf, IsStackSum, Listed, shortened, Halt, OfStop, StopsAfter, StopsAmong, Name, SourceBytes, PageView, Row, Run, SpanTable, json_of, narrowed, run_alone, stacks_of, warning_lines, Gathered, Summed.summed_of, Texts.{PageExceeds, PageFits}, Warnings.absent_lines, declared.{page_sum.PageSum.PageSum, pages.ShownFiles.ShownFiles}}

-- the run of a file alone, in which its items stand in their order, as a page shows it
abbrev pub shown_alone : Settings → Input → ShownRun
shown_alone settings file = record { files = file ∷ []; ends = ends_from settings.format 1 (file ∷ []); journal = journal_in_turn settings (file ∷ []) [] }

-- the runs that a page of files shows: of more than 64 there is just the table of their sum
abbrev pub shown_runs : Settings → List Input → List ShownRun
shown_runs settings files = if nat_le (length files) 64 then map (shown_alone settings) files else []

-- the runs come to the table and to the stacks that the page has of them
pub record IsPageSum (view : PageView) (runs : List Run) (sum : PageSum) : Type 0 where
  pub table : IsSumOf (summed_of view.options) runs sum.table
  pub stacks : IsStackSum view.labels.items runs sum.stacks

-- what a page shows of the table of its runs
abbrev pub seen : PageView → PageSum → SpanTable
seen view sum = narrowed view.options.narrowing sum.table.table

-- the stacks of the runs of files, added
abbrev pub stacks_of_files : Settings → PageView → List Input → List Row
stacks_of_files settings view files = stacks_of view.labels.items (map (run_alone settings) files)

-- the page of files, with this table
abbrev pub page_with : Settings → PageView → SpanTable → List Input → Bytes
page_with settings view table files =
    page_of_runs settings.format.unit view.labels.items (json_of settings.format.unit view.options.shown table) (stacks_of_files settings view files) (shown_runs settings files)

-- Each file was collected alone; the page of their runs, with the table of their sum and the graph of their stacks, is printed, their
-- lines are said, and then warnings: of them, and of columns of the table that no span has.
pub record PrintsPage (source : SourceBytes) (files : Listed) (settings : Settings) (view : PageView) (text lines warnings : Bytes) : Type 0 where
  pub summed : Gathered PageSum
  pub sums : GathersFiles source files.names.items settings (shortened files.cut (IsPageSum view)) summed
  pub fits : PageFits view.options.shown (seen view summed.runs) text
  pub page : text ≡ page_with settings view (seen view summed.runs) sums.files
  pub said : lines ≡ summed.said.lines.items
  pub warned : warnings ≡ warning_lines summed.said.warnings.items ++ absent_lines view.options.columns.items (seen view summed.runs ∷ [])

-- each file was collected alone, and the page of their runs exceeds a bound, as the line says
pub record StopsShown (source : SourceBytes) (files : Listed) (settings : Settings) (view : PageView) (lines : Bytes) : Type 0 where
  pub summed : Gathered PageSum
  pub sums : GathersFiles source files.names.items settings (shortened files.cut (IsPageSum view)) summed
  pub exceeds : PageExceeds view.options.shown (seen view summed.runs) (page_with settings view (seen view summed.runs) sums.files) lines

-- this is said where no page is printed
abbrev pub StopsPage : SourceBytes → Listed → Settings → PageView → Bytes → Type 0
StopsPage source files settings view lines = StopsAmong source settings files.names.items lines ⊎ StopsShown source files settings view lines

-- each of the files was collected alone, and is summed, with so much of its name left out; the page has these runs of them so far
pub record AreHeld (runs_of : List Input → List ShownRun) (source : SourceBytes) (cut : ℕ) (names : List Name) (settings : Settings) (view : PageView) (shown : ShownFiles) : Type 0 where
  pub sums : GathersFiles source names settings (shortened cut (IsPageSum view)) shown.summed
  pub runs : Holds settings.format.unit view.labels.items (runs_of sums.files) shown.page

-- what was collected of a file, as a page shows it
abbrev pub shown_run : FileRun → ShownRun
shown_run run = record { files = run.file ∷ []; ends = run.collected.end.ends.items; journal = run.collected.ledger.journal }

-- one more file is shown
pub record ShowsFile (source : SourceBytes) (cut : ℕ) (name : Name) (settings : Settings) (view : PageView) (old new : ShownFiles) : Type 0 where
  pub adds : AddsFile source name settings (shortened cut (IsPageSum view)) old.summed new.summed
  pub page : TakesRun settings.format.unit view.labels.items (shown_alone settings adds.file) old.page new.page

-- one more file is shown, or something stopped at it, or there are 2^32 or more
abbrev pub AddsShown : SourceBytes → ℕ → Name → Settings → PageView → ShownFiles → Result ShownFiles Halt → Type 0
AddsShown source cut name settings view old result = MatchResult result (ShowsFile source cut name settings view old) (OfStop (StopsAfter source name settings (shortened cut (IsPageSum view)) old.summed))

-- What is named, collected as one run, and what is printed of it.
use Rattle.std.specs.Prelude.{◌≡◌, ◌<◌, ◌≤◌, ◌⊎◌, ⊤, Bool, true, if◌then◌else◌, List, [], ◌∷◌, ◌++◌, Contains}
use Rattle.span_request.specs.declared.views.View.{View, TheVariants.{Folded, Page, Refusals, Report}}
use Rattle.span_tasks.specs.{Bytes, Entry, FileEnd, Input, Settings, RunError, StacksFault, number_of, report_of, refusals_of, most_names, folded_of, names_of, page_of, AreSeparate, IsNotCollected, SealedAccount, TextOf, run_code, status_of, text_in_turn, IsHint, warning_lines, warnings_of, fault_text, run_line, unread_line, AreInputs, SourceBytes, Name, printed, run_of_files, table_of_run, Unit, PageView, SpanTable, json_of, narrowed, Summed.summed_of, Texts.{PageExceeds, PageFits}, Warnings.absent_lines, declared.together.TogetherRun.TogetherRun}

-- what is named was read and collected as one run, and a journal accounts for it
pub record IsTogether (source : SourceBytes) (names : List Name) (settings : Settings) (run : TogetherRun) : Type 0 where
  pub read : AreInputs source settings names run.inputs.items
  pub account : SealedAccount run.inputs.items [] settings run.collected.end.ends.items run.collected.end.asked run.collected.end.sealing run.collected.ledger.journal
  pub status : run.collected.end.status ≡ status_of run.collected.end.ends.items run.collected.end.asked run.collected.end.sealing

-- the same, and its run didn't end with 2
pub record EndsWell (source : SourceBytes) (names : List Name) (settings : Settings) (run : TogetherRun) : Type 0 where
  pub is : IsTogether source names settings run
  pub below : run.collected.end.status < 2
  pub lines : run.lines.items ≡ fault_text run.inputs.items run.collected.end
  pub hints : IsHint run.hints.items

-- its files were read, and the run was refused, as the line says
pub record IsRefused (source : SourceBytes) (names : List Name) (settings : Settings) (lines : Bytes) : Type 0 where
  pub inputs : List Input
  pub read : AreInputs source settings names inputs
  pub error : RunError
  pub refused : IsNotCollected error inputs [] settings
  pub said : lines ≡ run_line (run_code error)

-- its run ended with 2, as these lines say
pub record IsCut (source : SourceBytes) (names : List Name) (settings : Settings) (lines : Bytes) : Type 0 where
  pub run : TogetherRun
  pub is : IsTogether source names settings run
  pub status : run.collected.end.status ≡ 2
  pub said : lines ≡ fault_text run.inputs.items run.collected.end

-- this is said where there is no run: one of its files was not read, or the run was refused, or ended with 2
abbrev pub StopsTogether : SourceBytes → List Name → Settings → Bytes → Type 0
StopsTogether source names settings lines = ((name : Name) × Contains names name × (lines ≡ unread_line (printed name)))
    ⊎ (IsRefused source names settings lines ⊎ IsCut source names settings lines)

-- the table of a page, for these files, which ended so
abbrev pub page_table : PageView → List Input → List FileEnd → List Entry → SpanTable
page_table view files ends journal = narrowed view.options.narrowing (table_of_run (summed_of view.options) (run_of_files files ends journal))

-- this view of what was collected in this unit
abbrev pub text_of : Unit → View → List Input → TextOf
text_of unit (Report warns) files ends journal = report_of unit journal
text_of unit Refusals files ends journal = refusals_of unit files ends journal
text_of unit (Folded labels) files ends journal = folded_of labels.items journal
text_of unit (Page view) files ends journal = page_of unit view.labels.items (json_of unit view.options.shown (page_table view files ends journal)) files ends journal

-- folded stacks have no more names than they may, and a page fits; any other text has no such bound
abbrev pub Fits : Unit → View → List Input → List FileEnd → List Entry → Type 0
Fits unit (Folded labels) files ends journal = names_of labels.items journal ≤ most_names
Fits unit (Page view) files ends journal = PageFits view.options.shown (page_table view files ends journal) (text_of unit (Page view) files ends journal)
Fits unit view files ends journal = ⊤

-- folded stacks have more names, as the line says, or a page exceeds a bound
abbrev pub Exceeds : Unit → View → List Input → List FileEnd → List Entry → Bytes → Type 0
Exceeds unit (Folded labels) files ends journal lines = (most_names < names_of labels.items journal) × (lines ≡ run_line (number_of StacksFault))
Exceeds unit (Page view) files ends journal lines = PageExceeds view.options.shown (page_table view files ends journal) (text_of unit (Page view) files ends journal) lines
Exceeds unit view files ends journal lines = ⊥

-- the lines of files of which events were refused, where these are warned of
abbrev pub warned_if : Bool → List Input → List FileEnd → List Entry → Bytes
warned_if warns files ends journal = if warns then warning_lines (warnings_of files ends journal) else []

-- What is warned of behind a view: such files, and columns of a page's table that no span has. The report may do without, and the text
-- of refusals says itself what was refused.
abbrev pub warned_of_view : View → List Input → List FileEnd → List Entry → Bytes
warned_of_view (Report warns) files ends journal = warned_if warns files ends journal
warned_of_view Refusals files ends journal = []
warned_of_view (Folded labels) files ends journal = warned_if true files ends journal
warned_of_view (Page view) files ends journal = warned_if true files ends journal ++ absent_lines view.options.columns.items (page_table view files ends journal ∷ [])

-- This view of what is named is printed, and these lines are said: those of files that are no trace, and then warnings. Of separate
-- files it is the view that they give where they are read in turn.
pub record Collects (source : SourceBytes) (names : List Name) (settings : Settings) (view : View) (text lines warnings : Bytes) : Type 0 where
  pub run : TogetherRun
  pub ended : EndsWell source names settings run
  pub fits : Fits settings.format.unit view run.inputs.items run.collected.end.ends.items run.collected.ledger.journal
  pub is : text ≡ text_of settings.format.unit view run.inputs.items run.collected.end.ends.items run.collected.ledger.journal
  pub in_turn : AreSeparate settings.format run.inputs.items → text ≡ text_in_turn (text_of settings.format.unit view run.inputs.items) run.inputs.items [] settings
  pub said : lines ≡ run.lines.items
  pub warned : warnings ≡ warned_of_view view run.inputs.items run.collected.end.ends.items run.collected.ledger.journal

-- the run ended well, and what is printed of it exceeds a bound
pub record HasExceeded (source : SourceBytes) (names : List Name) (settings : Settings) (view : View) (lines : Bytes) : Type 0 where
  pub run : TogetherRun
  pub ended : EndsWell source names settings run
  pub exceeds : Exceeds settings.format.unit view run.inputs.items run.collected.end.ends.items run.collected.ledger.journal lines

-- this is said where no view is printed
abbrev pub StopsCollecting : SourceBytes → List Name → Settings → View → Bytes → Type 0
StopsCollecting source names settings view lines = StopsTogether source names settings lines ⊎ HasExceeded source names settings view lines

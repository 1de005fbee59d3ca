-- The folded stacks of files each of which is a run of its own, added.
use Rattle.std.specs.Prelude.{◌≡◌, ◌<◌, ◌⊎◌, List}
use Rattle.span_tasks.specs.{Bytes, AreGathered, Listed, Run, Said, Settings, SourceBytes, SpanColumn, StacksFault, StopsAmong, IsTextOf, labels_in, most_names, number_of, run_line, stacks_of, warning_lines}

-- each file was collected alone; the text of their stacks is printed, their lines are said, and then warnings of them
pub record PrintsStacks (source : SourceBytes) (files : Listed) (settings : Settings) (columns : List SpanColumn) (text lines warnings : Bytes) : Type 0 where
  pub of_files : Said
  pub gathered : AreGathered source files.names.items settings (λ runs. IsTextOf (stacks_of columns runs) text) of_files
  pub said : lines ≡ of_files.lines.items
  pub warned : warnings ≡ warning_lines of_files.warnings.items

-- each file was collected alone, and their stacks have more labels, as the line says
pub record AreTooLarge (source : SourceBytes) (files : Listed) (settings : Settings) (columns : List SpanColumn) (lines : Bytes) : Type 0 where
  pub of_files : Said
  pub gathered : AreGathered source files.names.items settings (λ runs. most_names < labels_in (stacks_of columns runs)) of_files
  pub said : lines ≡ run_line (number_of StacksFault)

-- this is said where no stacks are printed
abbrev pub StopsStacks : SourceBytes → Listed → Settings → List SpanColumn → Bytes → Type 0
StopsStacks source files settings columns lines = StopsAmong source settings files.names.items lines ⊎ AreTooLarge source files settings columns lines

-- The folded stacks of a journal as a text.
use Rattle.std.specs.Prelude.{ℕ, List, [], ◌∷◌, ◌++◌, flat_map, sum_by, decimal}
use Rattle.span_report.specs.{Thread, Entry, ProcessRow, ThreadRow, ProcessRows, ThreadRows, rows_by_process, Stacks.{Bounds.{frame_count, names_in}, Frames.{frame, owner_frame}, Labels.labelled_spans, Ticks.{Folded, Stack, folded_stacks}}, declared.stacks.label.SpanColumn.SpanColumn}

-- the first two frames of the lines of a thread, which are its process and itself
abbrev pub thread_frames : ProcessRow → ThreadRow → List ℕ
thread_frames process thread = owner_frame process.pid process.name ++ (59 ∷ owner_frame thread.tid thread.name)

-- the frames of a stack, each with `;` before it
abbrev pub stack_frames : Stack → List ℕ
stack_frames stack = flat_map (λ name. 59 ∷ frame name) stack

-- the line of a stack: all frames, a blank, and how many ticks have it
abbrev pub stack_line : List ℕ → Folded → List ℕ
stack_line start folded = start ++ (stack_frames folded.stack ++ (32 ∷ (decimal folded.time ++ 10 ∷ [])))

abbrev pub stack_lines : List ℕ → List Folded → List ℕ
stack_lines start stacks = flat_map (stack_line start) stacks

-- by labels of these columns
module _ (columns : List SpanColumn) (journal : List Entry) where
  -- the folded stacks of a thread
  abbrev pub thread_stacks : Thread → List Folded
  thread_stacks thread = folded_stacks (labelled_spans columns journal thread)

  -- how many frames they make
  abbrev pub thread_frame_count : Thread → ℕ
  thread_frame_count thread = frame_count (labelled_spans columns journal thread)

  abbrev pub thread_lines : ProcessRow → ThreadRows → List ℕ
  thread_lines process thread = stack_lines (thread_frames process thread.row) (thread_stacks (record { pid = thread.row.pid; tid = thread.row.tid }))

  abbrev pub process_lines : ProcessRows → List ℕ
  process_lines process = flat_map (thread_lines process.row) process.threads

  -- a line for each stack of each thread, in the order of the report
  abbrev pub folded_of : List ℕ
  folded_of = flat_map process_lines (rows_by_process journal)

  -- the names of all folded stacks, as many of each stack as it is deep
  abbrev pub thread_names : ThreadRows → ℕ
  thread_names thread = names_in (thread_stacks (record { pid = thread.row.pid; tid = thread.row.tid }))

  abbrev pub process_names : ProcessRows → ℕ
  process_names process = sum_by thread_names process.threads

  abbrev pub names_of : ℕ
  names_of = sum_by process_names (rows_by_process journal)

use Rattle.std.proofs.Common.{◌≡◌, ◌++◌, string_bytes, take}
use Rattle.span_collect.specs.{count_row, head_lines, FaultLines.of_each_end, Refusals.Text.file_lines}
use Rattle.span_collect.proofs.refusals.text.refusals_text.Given as goal

-- the head, and the lines of the files so far
abbrev pub invariant-loop-place : goal.invariant-loop-place
invariant-loop-place l =
    string_bytes l.out ≡ head_lines l.fn.unit (count_row l.ledger.journal) ++ of_each_end (file_lines l.ledger.journal) (take l.place l.files) (take l.place l.ends)

use Rattle.std.proofs.Common.{◌≡◌, string_bytes, take}
use Rattle.span_collect.specs.FaultLines.{end_lines}
use Rattle.span_collect.proofs.faults.fault_lines.Given as goal

-- the lines of the files so far
abbrev pub invariant-loop-place : goal.invariant-loop-place
invariant-loop-place l = string_bytes l.out ≡ end_lines (take l.place l.files) (take l.place l.ends)

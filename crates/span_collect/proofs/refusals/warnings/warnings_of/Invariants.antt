use Rattle.std.proofs.Common.{◌≡◌, take}
use Rattle.span_collect.specs.{FaultLines.of_each_end, Refusals.Warnings.file_warnings}
use Rattle.span_collect.proofs.refusals.warnings.warnings_of.Given as goal

-- the warnings of the files so far
abbrev pub invariant-loop-place : goal.invariant-loop-place
invariant-loop-place l = l.warnings.items ≡ of_each_end (file_warnings l.ledger.journal) (take l.place l.files) (take l.place l.ends)

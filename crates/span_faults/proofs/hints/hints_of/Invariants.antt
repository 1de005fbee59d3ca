use Rattle.span_faults.specs.FaultLines.{IsHint}
use Rattle.span_faults.proofs.hints.hints_of.Given as goal

-- so far there are only hints
abbrev pub invariant-loop-file : goal.invariant-loop-file
invariant-loop-file l = IsHint l.hints.items

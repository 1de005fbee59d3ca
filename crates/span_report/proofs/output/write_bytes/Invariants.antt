use Rattle.std.proofs.Common.{length, ◌-◌, ◌≤◌, take}
use Rattle.span_report.specs.Sink.{TakesBytes}
use Rattle.span_report.proofs.output.write_bytes.Given as goal

-- the sink took the bytes so far, and no call failed
abbrev pub invariant-loop-taken : goal.invariant-loop-taken
invariant-loop-taken g l = (l.taken ≤ length l.bytes) × TakesBytes (g.O.Sink.state l.fn.out) (g.O.Sink.state l.out) (take l.taken l.bytes)

abbrev pub decreases-loop-taken : goal.decreases-loop-taken
decreases-loop-taken g l = length l.bytes - l.taken

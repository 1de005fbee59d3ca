use Rattle.std.proofs.Common.{◌≤◌, ◌-◌, vec_len}
use Rattle.span_self_time.proofs.division.segment_stacks.passed.Given as goal

abbrev pub invariant-loop-reach : goal.invariant-loop-reach
invariant-loop-reach g l = 64 ≤ l.reach

abbrev pub decreases-loop-reach : goal.decreases-loop-reach
decreases-loop-reach g l = vec_len l.segments - l.reach

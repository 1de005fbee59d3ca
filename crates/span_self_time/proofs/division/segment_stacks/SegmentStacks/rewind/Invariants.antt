use Rattle.std.proofs.Common.{vec_len}
use Rattle.span_self_time.specs.Division.SegmentStacks.{IsMoved}
use Rattle.span_self_time.proofs.division.segment_stacks.SegmentStacks.rewind.Given as goal

abbrev pub invariant-loop-self : goal.invariant-loop-self
invariant-loop-self l = IsMoved l.initial.self l.self

abbrev pub decreases-loop-self : goal.decreases-loop-self
decreases-loop-self l = vec_len l.self.past

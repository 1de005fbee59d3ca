use Rattle.std.proofs.Common.{◌≡◌, false, reverse, vec_len}
use Rattle.span_self_time.specs.Division.SegmentStacks.{lasts_beyond, IsMoved}
use Rattle.span_self_time.proofs.division.segment_stacks.SegmentStacks.advance.Given as goal

abbrev pub invariant-loop-self : goal.invariant-loop-self
invariant-loop-self l = record {
  moved : IsMoved l.initial.self l.self;
  past : lasts_beyond l.time (reverse l.initial.self.past.items) ≡ false → lasts_beyond l.time (reverse l.self.past.items) ≡ false;
}

abbrev pub decreases-loop-self : goal.decreases-loop-self
decreases-loop-self l = vec_len l.self.future

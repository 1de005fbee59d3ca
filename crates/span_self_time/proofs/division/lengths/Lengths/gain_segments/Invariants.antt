use Rattle.std.proofs.Common.{drop}
use Rattle.span_self_time.proofs.Lengths.{IsLeft}
use Rattle.span_self_time.proofs.division.lengths.Lengths.gain_segments.Given as goal

abbrev pub invariant-loop-owned : goal.invariant-loop-owned
invariant-loop-owned l = IsLeft l.fn.self l.self l.segments (drop l.owned-index l.segments)

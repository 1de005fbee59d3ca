use Rattle.std.specs.List.{IsDistinct}
use Rattle.std.proofs.Common.{sym, subst}
use Rattle.span_keyed_tracks.specs.{Flow.flow_cmp, Keyed.AreDistinct}
use Rattle.span_keyed_tracks.proofs.flow_track.FlowTrack.with_keys.Goals as goal

pub invariant_of-result : goal.invariant_of-result
unfolding IsDistinct
invariant_of-result c = subst (AreDistinct flow_cmp) (sym c.with_hasher.ensures.empty) tt

use Rattle.std.specs.List.{IsDistinct}
use Rattle.std.proofs.Common.{sym, subst}
use Rattle.span_keyed_tracks.specs.{Async.async_cmp, Keyed.AreDistinct}
use Rattle.span_keyed_tracks.proofs.async_track.AsyncTrack.with_keys.Goals as goal

pub invariant_of-result : goal.invariant_of-result
unfolding IsDistinct
invariant_of-result c = subst (AreDistinct async_cmp) (sym c.with_hasher.ensures.empty) tt

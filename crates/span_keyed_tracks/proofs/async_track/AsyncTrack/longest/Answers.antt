use Rattle.span_keyed_tracks.proofs.Orders.{async_cmp-same}
use Rattle.span_keyed_tracks.proofs.async_track.AsyncTrack.longest.Goals as goal

pub find-requires-clause-same : goal.find-requires-clause-same
find-requires-clause-same c = async_cmp-same

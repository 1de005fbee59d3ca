use Rattle.span_keyed_tracks.proofs.Orders.{flow_cmp-same}
use Rattle.span_keyed_tracks.proofs.flow_track.FlowTrack.of.Goals as goal

pub find-requires-clause-same : goal.find-requires-clause-same
find-requires-clause-same c = flow_cmp-same

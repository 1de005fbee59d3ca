use Rattle.std.proofs.Common.{rules}
use Rattle.span_keyed_tracks.specs.Flow.{HasPointRoom, flow_chains, flow_cmp, stepped}
use Rattle.span_keyed_tracks.proofs.{Flow.flow_chains-stepped, KeyChange.{kept_at-holds, ChangesAt-stands, by_third}, Orders.{flow_cmp-total, flow_cmp-same}}
use Rattle.span_keyed_tracks.proofs.flow_track.FlowTrack.step_flow.Goals as goal

pub change_at-requires-clause-can : goal.change_at-requires-clause-can
change_at-requires-clause-can c = λ value is. let room = kept_at-holds flow_cmp HasPointRoom c.args.key.now is c.new-none.ensures c.self.view_is c.requires.room in search rules

pub returns-clause-stands : goal.returns-clause-stands
returns-clause-stands c =
    ChangesAt-stands flow_cmp-total flow_cmp-same flow_chains c.new-none.ensures c.self.view_is c.change_at.result c.change_at.ensures.changes (stepped c.args.ts)
    (λ points answer value called. by_third (flow_chains-stepped points c.args.ts) (search rules))

pub change_at-requires-clause-same : goal.change_at-requires-clause-same
change_at-requires-clause-same c = flow_cmp-same

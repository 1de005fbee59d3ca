use Rattle.std.specs.Prelude.{Some}
use Rattle.std.proofs.Common.{rules, ◌≡◌, sym, ap₂, ◌∙◌}
use Rattle.span_keyed_tracks.specs.{Flow.{HasPointRoom, flow_chains, flow_closed, flow_cmp, finished}, Keyed.{in_key_order, kept_at}}
use Rattle.span_keyed_tracks.proofs.{Flow.flow_chains-closed_at, KeyChange.{kept_at-holds, ChangesAt-answer, ChangesAt-stands, by_third}, Orders.{flow_cmp-total, flow_cmp-same}}
use Rattle.span_keyed_tracks.proofs.flow_track.FlowTrack.end_flow.Goals as goal

pub change_at-requires-clause-can : goal.change_at-requires-clause-can
change_at-requires-clause-can c = λ value is. let room = kept_at-holds flow_cmp HasPointRoom c.args.key.now is c.new-none.ensures c.self.view_is c.requires.room in search rules

pub returns-clause-closed : goal.returns-clause-closed
returns-clause-closed c =
    ChangesAt-answer c.change_at.result _
    (λ answer value called.
    let closed : flow_closed (kept_at flow_cmp c.new-none.result (in_key_order flow_cmp c.self.inside.keys.entries) c.args.key.now) c.args.ts ≡ Some answer = search rules in
    ap₂ (λ none track. flow_closed (kept_at flow_cmp none track c.args.key.now) c.args.ts) (sym c.new-none.ensures) (sym c.self.view_is) ∙ closed)
    c.change_at.ensures.changes

pub returns-clause-stands : goal.returns-clause-stands
returns-clause-stands c =
    ChangesAt-stands flow_cmp-total flow_cmp-same flow_chains c.new-none.ensures c.self.view_is c.change_at.result c.change_at.ensures.changes (finished c.args.ts)
    (λ points answer value called. by_third (flow_chains-closed_at points c.args.ts answer (search rules)) (search rules))

pub change_at-requires-clause-same : goal.change_at-requires-clause-same
change_at-requires-clause-same c = flow_cmp-same

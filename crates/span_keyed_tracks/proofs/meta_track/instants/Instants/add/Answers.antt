use Rattle.std.proofs.Common.{rules, refl}
use Rattle.span_event.proofs.Orders.{thread_cmp-same, thread_cmp-total}
use Rattle.span_keyed_tracks.specs.{thread_cmp, Instants.{HasNameRoom, NamedReach, TakesName, names_counted}}
use Rattle.span_keyed_tracks.proofs.{Instants.few_names, KeyChange.{kept_at-holds, ChangesAt-stands}}
use Rattle.span_keyed_tracks.proofs.meta_track.instants.Instants.add.Goals as goal

pub change_at-requires-clause-can : goal.change_at-requires-clause-can
change_at-requires-clause-can c = λ value is. let room = kept_at-holds thread_cmp HasNameRoom c.args.thread is c.new-none.ensures c.self.view_is (few_names c.args.self.now c.args.thread c.requires) in search rules

pub returns-clause-takes : goal.returns-clause-takes
returns-clause-takes c =
    let step : NamedReach = record { key = c.args.name.now; step = c.args.reach } in
    ChangesAt-stands thread_cmp-total thread_cmp-same names_counted c.new-none.ensures c.self.view_is c.change_at.result c.change_at.ensures step
    (λ steps answer value called. let takes : TakesName (names_counted steps) value step = search rules in takes steps refl)

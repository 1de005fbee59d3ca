use Rattle.std.proofs.{Common.{rules, refl, ◌-◌, ◌<◌, ◌^◌}, lemmas.Cmp.nat_list_cmp_total}
use Rattle.span_event.proofs.Orders.{text_same}
use Rattle.span_keyed_tracks.specs.{text_cmp, Instants.{ReachCounts, counts_of}, InstantsKept.count_at}
use Rattle.span_keyed_tracks.proofs.{Instants.{counts_of-push, few_reaches}, KeyChange.{kept_at-holds, ChangesAt-stands, by_third}}
use Rattle.span_keyed_tracks.proofs.meta_track.instants.add_to.Goals as goal

pub change_at-requires-clause-can : goal.change_at-requires-clause-can
change_at-requires-clause-can c = λ value is.
    let room = kept_at-holds text_cmp (λ (n : ReachCounts). count_at c.args.reach n < 2 ^ 32 - 1) c.args.name.now is c.new.ensures refl (few_reaches c.args.names.now.entries c.args.name.now c.args.reach c.requires) in
    search rules

pub returns-clause-takes : goal.returns-clause-takes
returns-clause-takes c =
    ChangesAt-stands nat_list_cmp_total text_same counts_of c.new.ensures refl c.change_at.result c.change_at.ensures c.args.reach
    (λ reaches answer value called. by_third (counts_of-push reaches c.args.reach) (search rules))

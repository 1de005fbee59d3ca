use Rattle.std.specs.{BTreeMap.{BTreeMap, insert_entry}, Ordering.nat_cmp}
use Rattle.std.proofs.Common.{ℕ, sym, ap, ◌∙◌}
use Rattle.span_keyed_tracks.proofs.Results.{on_ok-map}
use Rattle.span_collect.specs.Refusals.Tallies.{Tallied}
use Rattle.span_collect.proofs.RefusalLemmas.Tallying.{HasRoom-found, tallies_of-first, tallies_of-written}
use Rattle.span_collect.proofs.refusals.tallies.add.Goals as goal

pub add-requires : goal.add-requires
add-requires c = HasRoom-found c.args.tallies.now.entries c.args.entry.now.caller c.in-Some.tally.now c.requires (sym c.in-Some.ensures.value)

pub returns-in-Some : goal.returns-in-Some
returns-in-Some c =
    let after = (c.get_mut.follows.lender c.add.new.self).entries in
    on_ok-map c.add.result _ _
    (λ takes journal stands. tallies_of-written journal c.args.tallies.now.entries stands c.args.entry.now after c.in-Some.ensures.ordered c.in-Some.tally.now c.add.new.self (sym c.in-Some.ensures.value) takes (c.get_mut.follows.holds c.add.new.self).0)
    c.add.ensures

pub returns : goal.returns
returns c = λ journal stands.
    tallies_of-first journal c.args.tallies.now.entries stands c.args.entry.now c.insert.new.self.entries c.in_default.ensures.ordered c.new-tally.result c.add-2.new.self (sym c.in_default.ensures.value) c.new-tally.ensures c.in_ok-add.ensures
    (c.in_ok-insert.ensures.entries ∙ ap (λ (m : BTreeMap ℕ Tallied). insert_entry nat_cmp m.entries c.args.entry.now.caller c.add-2.new.self) c.get_mut.follows.holds-at-none)

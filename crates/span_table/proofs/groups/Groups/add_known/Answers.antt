use Rattle.std.specs.{BTreeMap.insert_entry, List.IsDistinct, Ordering.eq_by_cmp, Prelude.{OnErr, Result, Ok, Err}}
use Rattle.std.proofs.Common.{Some, None, true≢false, refl, sym, ap, subst, ◌∙◌}
use Rattle.indexmap.specs.IndexMap.{with_value_at}
use Rattle.indexmap.proofs.CallerLemmas.{keys-with_value_at}
use Rattle.span_keyed_tracks.proofs.InKeyOrder.{found-in_key_order}
use Rattle.span_table.specs.{AreDistinct, in_key_order, KeyLaws.{key_cmp_total, key_cmp-same}, Keys.key_cmp, Tables.SumsByKey}
use Rattle.span_table.proofs.{KeyPlaces.{kept-found, place-none, place-value, set_value_at-same, written-at}, Summing.sums-added}
use Rattle.span_table.proofs.groups.Groups.add_known.Goals as goal

pub returns-in_default-clause-new : goal.returns-in_default-clause-new
returns-in_default-clause-new c = λ known.
    let es = c.self.inside.kept.entries in
    let key = c.args.key.now in
    found-in_key_order key_cmp_total key_cmp-same (λ a b. refl) es key None c.self.invariant
    (sym (place-none es key c.place_of-at.result c.place_of-at.ensures (λ below. true≢false (sym (c.in_default.ensures.found.1 below)))))

on_err : {A E P : Type 0} (result : Result A E) → P → OnErr result P
on_err (Ok value) p = tt
on_err (Err error) p = p

-- what is refused changes nothing
pub invariant_of-self-in_err-sums : goal.invariant_of-self-in_err-sums
invariant_of-self-in_err-sums c =
    subst (AreDistinct key_cmp) (sym (set_value_at-same c.self.inside.kept.entries c.place_of-at.result c.in-Some.sums.now (sym c.in-Some.ensures.value))) c.self.invariant

pub returns-in_err-sums-clause-err : goal.returns-in_err-sums-clause-err
returns-in_err-sums-clause-err c =
    on_err c.from_residual.result
    (ap (in_key_order key_cmp) (set_value_at-same c.self.inside.kept.entries c.place_of-at.result c.in-Some.sums.now (sym c.in-Some.ensures.value)) ∙ c.self.view_is)

pub invariant_of-self-2 : goal.invariant_of-self-2
invariant_of-self-2 c =
    subst (λ keys. IsDistinct (eq_by_cmp key_cmp) keys) (sym (keys-with_value_at c.self.inside.kept c.place_of-at.result c.in_ok-sums.field-0)) c.self.invariant

pub returns-clause-takes : goal.returns-clause-takes
returns-clause-takes c = λ known.
    let kept = c.self.inside.kept in
    let key = c.args.key.now in
    let place = c.place_of-at.result in
    let was = c.in-Some.sums.now in
    let now = c.in_ok-sums.field-0 in
    let at = place-value kept.entries key place was c.place_of-at.ensures (sym c.in-Some.ensures.value) in
    let written = written-at kept place key was now c.self.invariant c.place_of-at.ensures (sym c.in-Some.ensures.value) in
    sums-added key was c.args.more.now now c.args.self.now (in_key_order key_cmp (with_value_at kept place now).entries)
    (kept-found kept.entries c.args.self.now key (Some was) c.self.invariant c.self.view_is (sym at.1)) c.in_ok-sums.ensures
    (written ∙ ap (λ (kept : SumsByKey). insert_entry key_cmp kept key now) c.self.view_is)

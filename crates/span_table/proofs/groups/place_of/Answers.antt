use Rattle.std.specs.{Map.lookup, Ordering.eq_by_cmp}
use Rattle.std.proofs.Common.{◌≡◌, false, Option, Some, None, refl, sym, ap, subst, ◌∙◌, is_some}
use Rattle.span_table.specs.{Collected.{IsKeptAs, IsPlaceOf}, KeyLaws.key_eq-same, Keys.{TableKey, key_cmp}}
use Rattle.span_table.proofs.KeyPlaces.{absent-place, found-place}
use Rattle.span_table.proofs.groups.place_of.Goals as goal

-- what isn't there
none-if : {A : Type 0} (found : Option A) → is_some found ≡ false → found ≡ None
none-if None h = refl
none-if (Some x) h = cc

pub returns : goal.returns
returns c =
    let es = c.args.kept.now.entries in
    let key = c.args.key.now in
    let same : c.in-Some-get_index.known.now ≡ key = key_eq-same c.in-Some-get_index.known.now key (sym c.eq.ensures ∙ c.if-eq.true) in
    subst (IsKeptAs es key) c.in-Some-get_index.ensures.entry
    (same, ap (λ (k : TableKey). lookup (eq_by_cmp key_cmp k) es) (sym same) ∙ c.in-Some-get_index.ensures.value)

pub returns-in-Some-get_index_of : goal.returns-in-Some-get_index_of
returns-in-Some-get_index_of c =
    found-place c.args.kept.now.entries c.args.key.now c.in-Some-get_index_of.at (sym c.in-Some-get_index_of.ensures.index) c.in-Some-get_index_of.ensures.value

pub returns-in-None : goal.returns-in-None
returns-in-None c =
    let es = c.args.kept.now.entries in
    let key = c.args.key.now in
    subst (IsPlaceOf es key) (sym c.len.ensures.len) (absent-place es key (none-if (lookup (eq_by_cmp key_cmp key) es) (sym c.in-None.ensures.found)))

-- Where a key stands among what is kept.
use Rattle.std.specs.{BTreeMap.{insert_entry, is_at}, Cmp.eq_by_cmp_equiv, List.IsDistinct, Map.{keys_of, lookup, values_of}, Option.option_map, Ordering.eq_by_cmp, Prelude.{get_or, unwrap_or}}
use Rattle.std.proofs.{Common.{◌≡◌, ℕ, zero, suc, ◌<◌, true, [], ◌∷◌, length, slice_get, position, Option, Some, None, refl, sym, ap, ap₂, subst, ◌∙◌, arith}, lemmas.{List.Quantifiers.position-Some, Option.{none-some, same_Some, slice_get-get_or, slice_get-map, slice_get_past, slice_get_within}}}
use Rattle.indexmap.specs.IndexMap.{IndexMap, set_value_at, with_value_at}
use Rattle.indexmap.proofs.CallerLemmas.{keys-with_value_at, updates-with_value_at}
use Rattle.span_keyed_tracks.proofs.{InKeyOrder.{found-in_key_order, in_key_order-sorted, in_key_order-written}, KeyChange.insert_entry-found}
use Rattle.span_table.specs.{AreDistinct, in_key_order, Collected.{IsKeptAs, IsPlaceOf}, KeyLaws.{key_cmp_total, key_cmp-same, key_eq-same}, Keys.{TableKey, key_cmp}, Tables.{SumsByKey, sums_together}, declared.sums.Sums.Sums}

module _ (kept : SumsByKey) (key : TableKey) where
  -- the first place of a key that its order distinguishes
  pub found-place : (place : ℕ) → position (eq_by_cmp key_cmp key) (keys_of kept) ≡ Some place →
      slice_get (values_of kept) place ≡ lookup (eq_by_cmp key_cmp key) kept → IsPlaceOf kept key place
  found-place place found value = by (slice_get kept place) refl
    where
      at : (place < length (keys_of kept)) × (eq_by_cmp key_cmp key (get_or (keys_of kept) place key) ≡ true)
      at = let all = position-Some (eq_by_cmp key_cmp key) (keys_of kept) place key found in (all.0, all.1)

      keys : slice_get (keys_of kept) place ≡ Some key
      keys = slice_get-get_or (keys_of kept) place key at.0 ∙ ap Some (sym (key_eq-same key (get_or (keys_of kept) place key) at.1))

      by : (entry : Option (TableKey × Sums)) → slice_get kept place ≡ entry → IsKeptAs kept key entry
      by None is = absurd (none-some _ (sym (slice_get-map (λ (e : TableKey × Sums). e.0) kept place ∙ ap (option_map (λ (e : TableKey × Sums). e.0)) is) ∙ keys))
      by (Some entry) is = (
        same_Some _ _ (sym (slice_get-map (λ (e : TableKey × Sums). e.0) kept place ∙ ap (option_map (λ (e : TableKey × Sums). e.0)) is) ∙ keys),
        sym value ∙ slice_get-map (λ (e : TableKey × Sums). e.1) kept place ∙ ap (option_map (λ (e : TableKey × Sums). e.1)) is,
      )

  -- behind all, where nothing is kept of it
  pub absent-place : lookup (eq_by_cmp key_cmp key) kept ≡ None → IsPlaceOf kept key (length kept)
  absent-place none = subst (IsKeptAs kept key) (sym (slice_get_past kept (length kept) (omega arith))) none

  -- what stands at a place
  pub place-value : (place : ℕ) (value : Sums) → IsPlaceOf kept key place → slice_get (values_of kept) place ≡ Some value →
      (slice_get kept place ≡ Some (key, value)) × (lookup (eq_by_cmp key_cmp key) kept ≡ Some value)
  place-value place value is found = by (slice_get kept place) refl is
    where
      by : (entry : Option (TableKey × Sums)) → slice_get kept place ≡ entry → IsKeptAs kept key entry →
          (slice_get kept place ≡ Some (key, value)) × (lookup (eq_by_cmp key_cmp key) kept ≡ Some value)
      by None at none = absurd (none-some _ (sym (slice_get-map (λ (e : TableKey × Sums). e.1) kept place ∙ ap (option_map (λ (e : TableKey × Sums). e.1)) at) ∙ found))
      by (Some entry) at is_kept =
          let same : entry.1 ≡ value = same_Some _ _ (sym (slice_get-map (λ (e : TableKey × Sums). e.1) kept place ∙ ap (option_map (λ (e : TableKey × Sums). e.1)) at) ∙ found) in
          (at ∙ ap₂ (λ k v. Some (k, v)) is_kept.0 same, is_kept.1 ∙ ap Some same)

  -- where nothing stands, nothing is kept
  pub place-none : (place : ℕ) → IsPlaceOf kept key place → (place < length kept → ⊥) → lookup (eq_by_cmp key_cmp key) kept ≡ None
  place-none place is beyond = by (slice_get kept place) refl is
    where
      by : (entry : Option (TableKey × Sums)) → slice_get kept place ≡ entry → IsKeptAs kept key entry → lookup (eq_by_cmp key_cmp key) kept ≡ None
      by None at is_kept = is_kept
      by (Some entry) at is_kept = absurd (beyond (slice_get_within kept place entry at))

-- what the map finds for a key is what is kept there
pub kept-found : (es kept : SumsByKey) (key : TableKey) (found : Option Sums) → AreDistinct key_cmp es → in_key_order key_cmp es ≡ kept → found ≡ lookup (eq_by_cmp key_cmp key) es →
    unwrap_or (lookup (is_at (key_cmp key)) kept) (sums_together []) ≡ unwrap_or found (sums_together [])
kept-found es kept key found distinct view is =
    ap (λ (l : SumsByKey). unwrap_or (lookup (is_at (key_cmp key)) l) (sums_together [])) (sym view)
    ∙ ap (λ s. unwrap_or s (sums_together [])) (found-in_key_order key_cmp_total key_cmp-same (λ a b. refl) es key found distinct is)

-- to write what stands at a place changes nothing
pub set_value_at-same : (es : SumsByKey) (place : ℕ) (value : Sums) → slice_get (values_of es) place ≡ Some value → set_value_at es place value ≡ es
set_value_at-same [] place value found = refl
set_value_at-same (e ∷ es) zero value found = ap (λ v. (e.0, v) ∷ es) (sym (same_Some e.1 value found))
set_value_at-same (e ∷ es) (suc place) value found = ap (λ l. e ∷ l) (set_value_at-same es place value found)

-- what is written at the place of a key
pub written-at : {S : Type 0} (m : IndexMap TableKey Sums S) (place : ℕ) (key : TableKey) (was now : Sums) → AreDistinct key_cmp m.entries → IsPlaceOf m.entries key place →
    slice_get (values_of m.entries) place ≡ Some was → in_key_order key_cmp (with_value_at m place now).entries ≡ insert_entry key_cmp (in_key_order key_cmp m.entries) key now
written-at m place key was now distinct is found =
    let at = place-value m.entries key place was is found in
    let updates = updates-with_value_at m place now (eq_by_cmp_equiv key_cmp_total) distinct key was at.0 in
    let later = subst (λ keys. IsDistinct (eq_by_cmp key_cmp) keys) (sym (keys-with_value_at m place now)) distinct in
    in_key_order-written key_cmp_total key_cmp-same (λ a b. refl) m.entries (with_value_at m place now).entries key now distinct later updates.1 updates.2 was (sym at.1) (keys-with_value_at m place now)
    ∙ insert_entry-found key_cmp_total (in_key_order key_cmp m.entries) key was now (in_key_order-sorted key_cmp_total key_cmp-same was m.entries distinct)
    (found-in_key_order key_cmp_total key_cmp-same (λ a b. refl) m.entries key (Some was) distinct (sym at.1))

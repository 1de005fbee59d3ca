-- The keys of repeated runs in the order of their text.
use Rattle.std.specs.{Cmp.IsTotalOrder, List.{IsDistinct, Sorted.IsStrictlySortedBy}, Ordering.{eq_by_cmp, is_eq, nat_cmp}, Prelude.filter, declared.cmp.Ordering.TheVariants.Less}
use Rattle.std.proofs.{Common.{◌≡◌, ℕ, false, List, [], ◌∷◌, ◌++◌, map, refl, sym, ap, subst, ◌∙◌}, lemmas.Cmp.{back_total, nat_cmp_total, on_total, then_total}}
use Rattle.span_journal.proofs.Sorted.{AllByRecursion-map, ascending-sorted, map-map, map-sorted}
use Rattle.span_keyed_tracks.proofs.Sorting.{ascending-permutation}
use Rattle.span_table_text.proofs.Ranked.{filter-sorted}
use Rattle.span_comparisons.specs.{Number, key_cmp_total, TableKey, key_cmp, Wanted, is_wanted, SpanTable, Laws.RepetitionsHaveEachKey, Sides.ClassifiesSpreads, Spreads.{Spreads, all_keys, is_apart, keys_of, median_gap, shown_keys, shown_spreads, spread_order, spreads_at}}
use Rattle.span_comparisons.proofs.Permuted.{apart}

-- the order of spreads is total
pub spread_order-total : IsTotalOrder spread_order
spread_order-total = then_total (on_total median_gap (back_total nat_cmp_total)) (on_total (λ (s : Spreads). s.key) key_cmp_total)

IsDistinct-rising : (spreads : List Spreads) → IsStrictlySortedBy (λ (a b : Spreads). key_cmp a.key b.key) spreads → IsDistinct (eq_by_cmp spread_order) spreads
unfolding IsStrictlySortedBy IsDistinct
IsDistinct-rising [] rise = tt
IsDistinct-rising (x ∷ xs) rise = (
  AllByRecursion-map (λ (y : Spreads). key_cmp x.key y.key ≡ Less) (λ (y : Spreads). eq_by_cmp spread_order x y ≡ false)
      (λ (y : Spreads) (below : key_cmp x.key y.key ≡ Less). apart (nat_cmp (median_gap y) (median_gap x)) (key_cmp x.key y.key) (ap is_eq below)) xs rise.0,
  IsDistinct-rising xs rise.1,
)

-- no two keys stand at one place
pub spreads-distinct : (by : Number) (wanted : Wanted) (base other : List SpanTable) → IsDistinct (eq_by_cmp spread_order) (filter is_apart (shown_spreads by wanted base other))
spreads-distinct by wanted base other =
    let by_key = λ (a b : Spreads). key_cmp a.key b.key in
    let tables = base ++ other in
    IsDistinct-rising (filter is_apart (shown_spreads by wanted base other))
    (filter-sorted by_key is_apart (shown_spreads by wanted base other)
    (map-sorted key_cmp (λ (s : Spreads). s.key) (spreads_at by base other) (λ key. refl) (shown_keys wanted tables)
    (filter-sorted key_cmp (is_wanted wanted) (all_keys tables) (ascending-sorted key_cmp_total (keys_of tables)))))

-- so each key has its place
pub spreads-each : RepetitionsHaveEachKey
spreads-each by wanted base other = record {
  places = ascending-permutation spread_order-total (filter is_apart (shown_spreads by wanted base other)) (spreads-distinct by wanted base other);
  order = ascending-sorted spread_order-total (filter is_apart (shown_spreads by wanted base other));
}

-- what classifies the keys that are shown, whatever stands for them, classifies these with their spreads
pub ClassifiesSpreads-shown : {A : Type 0} (at : A → TableKey) (by : Number) (wanted : Wanted) (base other : List SpanTable) (keys : List A) (found : List Spreads) (overlap same : ℕ) →
    map at keys ≡ shown_keys wanted (base ++ other) → ClassifiesSpreads (map (λ key. spreads_at by base other (at key)) keys) found overlap same →
    ClassifiesSpreads (shown_spreads by wanted base other) found overlap same
ClassifiesSpreads-shown at by wanted base other keys found overlap same shown classifies =
    subst (λ spreads. ClassifiesSpreads spreads found overlap same) (sym (map-map (spreads_at by base other) at keys) ∙ ap (map (spreads_at by base other)) shown) classifies

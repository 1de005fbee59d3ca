-- No two rows that rise rank alike, so each has its place in a ranking.
use Rattle.std.specs.{Cmp.IsTotalOrder, List.{AllByRecursion, IsDistinct, Sorted.IsStrictlySortedBy}, Ordering.{eq_by_cmp, is_eq, nat_cmp, ordering_then}, Prelude.filter, declared.cmp.Ordering.{Ordering, TheVariants.{Less, Equal, Greater}}}
use Rattle.std.proofs.{Common.{◌≡◌, Bool, true, false, cond, List, [], ◌∷◌, refl, ap, sym, ◌∙◌}, lemmas.{Cmp.{back_total, nat_cmp_total, on_total, then_total}, List.Sorted.{IsPermutation-sym, IsPermutation-trans}, Map.Keys.IsDistinct-IsPermutation}}
use Rattle.span_keyed_tracks.proofs.{Sorted.ascending-sorted, Sorting.{ascending-permutation, sorted-ascending}, Uses.is_eq-turned}
use Rattle.span_journal.proofs.{Selected.filter-ascending, Sorted.AllByRecursion-map}
use Rattle.span_table.specs.{KeyLaws.key_cmp-same, Tables.{AreRowsOf, row_cmp}}
use Rattle.span_table.proofs.Mixed.{AreRowsOf-permutation, RowsRise-sorted, row_cmp-total}
use Rattle.span_table_text.specs.{Number, Row, key_cmp_total, key_cmp, number_by, RowsRise, Ranks.{ranking_order, ranked, RankingsHaveEachRow}, Shown.{Wanted, is_wanted, shown_rows}}
use Rattle.span_table_text.proofs.Selected.{IsSorted-strictly}

-- the order of a ranking is total
pub ranking_order-total : (by : Number) → IsTotalOrder (ranking_order by)
ranking_order-total by = then_total (on_total (λ (row : Row). number_by by row.sums) (back_total nat_cmp_total)) (on_total (λ (row : Row). row.key) key_cmp_total)

filter-all : {A : Type 0} (P : A → Type 0) (p : A → Bool) (xs : List A) → AllByRecursion P xs → AllByRecursion P (filter p xs)
filter-all P p [] all = tt
filter-all {A = A} P p (x ∷ xs) all = by (p x) (filter-all P p xs all.1)
  where
    by : (b : Bool) → AllByRecursion P (filter p xs) → AllByRecursion P (cond b (x ∷ filter p xs) (filter p xs))
    by true rest = (all.0, rest)
    by false rest = rest

-- those of sorted rows that pass a test are sorted
pub filter-sorted : {A : Type 0} (R : A → A → Ordering) (p : A → Bool) (xs : List A) → IsStrictlySortedBy R xs → IsStrictlySortedBy R (filter p xs)
unfolding IsStrictlySortedBy
filter-sorted R p [] sorted = tt
filter-sorted {A = A} R p (x ∷ xs) sorted = by (p x) (filter-all (λ y. R x y ≡ Less) p xs sorted.0) (filter-sorted R p xs sorted.1)
  where
    by : (b : Bool) → AllByRecursion (λ y. R x y ≡ Less) (filter p xs) → IsStrictlySortedBy R (filter p xs) → IsStrictlySortedBy R (cond b (x ∷ filter p xs) (filter p xs))
    by true below rest = (below, rest)
    by false below rest = rest

apart : (p q : Ordering) → q ≡ Less → is_eq (ordering_then p q) ≡ false
apart Less q below = refl
apart Greater q below = refl
apart Equal q below = ap is_eq below

-- no two rows that rise rank alike
pub IsDistinct-rising : (by : Number) (rows : List Row) → RowsRise rows → IsDistinct (eq_by_cmp (ranking_order by)) rows
unfolding IsStrictlySortedBy IsDistinct
IsDistinct-rising by [] sorted = tt
IsDistinct-rising by (x ∷ xs) sorted = (
  AllByRecursion-map (λ (y : Row). key_cmp x.key y.key ≡ Less) (λ (y : Row). eq_by_cmp (ranking_order by) x y ≡ false)
      (λ (y : Row) (below : key_cmp x.key y.key ≡ Less). apart (nat_cmp (number_by by y.sums) (number_by by x.sums)) (key_cmp x.key y.key) below) xs sorted.0,
  IsDistinct-rising by xs sorted.1,
)

-- nor do those of them that are shown
pub shown_rows-distinct : (by : Number) (wanted : Wanted) (rows : List Row) → RowsRise rows → IsDistinct (eq_by_cmp (ranking_order by)) (shown_rows wanted rows)
shown_rows-distinct by wanted rows rise = IsDistinct-rising by (shown_rows wanted rows) (filter-sorted (λ (a b : Row). key_cmp a.key b.key) (λ (row : Row). is_wanted wanted row.key) rows rise)

filter-distinct : {A : Type 0} (e : A → A → Bool) (p : A → Bool) (xs : List A) → IsDistinct e xs → IsDistinct e (filter p xs)
unfolding IsDistinct
filter-distinct e p [] distinct = tt
filter-distinct {A = A} e p (x ∷ xs) distinct = by (p x) (filter-all (λ y. e x y ≡ false) p xs distinct.0) (filter-distinct e p xs distinct.1)
  where
    by : (b : Bool) → AllByRecursion (λ y. e x y ≡ false) (filter p xs) → IsDistinct e (filter p xs) → IsDistinct e (cond b (x ∷ filter p xs) (filter p xs))
    by true apart rest = (apart, rest)
    by false apart rest = rest

-- of the rows of a table in whatever order, those that are shown are those of the table
module _ (wanted : Wanted) (rows mixed : List Row) (are : AreRowsOf rows mixed) where
  pub AreRowsOf-shown : AreRowsOf (shown_rows wanted rows) (shown_rows wanted mixed)
  AreRowsOf-shown =
      let test = λ (row : Row). is_wanted wanted row.key in record {
        distinct = filter-distinct (eq_by_cmp row_cmp) test mixed are.distinct;
        sorted = ap (filter test) are.sorted ∙ filter-ascending row_cmp-total test (λ a b same. ap (is_wanted wanted) (key_cmp-same a.key b.key same)) mixed;
      }

  module _ (by : Number) where
    -- no two of them rank alike
    pub IsDistinct-shown : IsDistinct (eq_by_cmp (ranking_order by)) (shown_rows wanted mixed)
    IsDistinct-shown =
        let shown = shown_rows wanted rows in
        let rise = RowsRise-sorted rows mixed are in
        IsDistinct-IsPermutation (eq_by_cmp (ranking_order by)) (is_eq-turned (ranking_order-total by)) shown (shown_rows wanted mixed)
        (IsPermutation-sym (shown_rows wanted mixed) shown (AreRowsOf-permutation shown (shown_rows wanted mixed) AreRowsOf-shown)) (shown_rows-distinct by wanted rows rise)

    -- they rank as those of the table do
    pub ranked-shown : ranked by (shown_rows wanted mixed) ≡ ranked by (shown_rows wanted rows)
    ranked-shown =
        let total = ranking_order-total by in
        let shown = shown_rows wanted rows in
        let rise = RowsRise-sorted rows mixed are in
        let moved = IsPermutation-trans (shown_rows wanted mixed) shown (ranked by shown) (AreRowsOf-permutation shown (shown_rows wanted mixed) AreRowsOf-shown)
        (ascending-permutation total shown (shown_rows-distinct by wanted rows rise)) in
        sym (sorted-ascending total (shown_rows wanted mixed) (ranked by shown) IsDistinct-shown moved (IsSorted-strictly total (ranked by shown) (ascending-sorted total shown)))

-- each row has its place, and no two rank alike
pub ranked-each : RankingsHaveEachRow
ranked-each by wanted rows rise = record {
  places = ascending-permutation (ranking_order-total by) (shown_rows wanted rows) (shown_rows-distinct by wanted rows rise);
  order = ascending-sorted (ranking_order-total by) (shown_rows wanted rows);
}

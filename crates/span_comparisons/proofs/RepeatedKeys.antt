-- The keys of the tables of repeated runs.
use Rattle.std.specs.{Cmp.eq_by_cmp_equiv, List.{AllByRecursion, dedup, dedup_from, Sorted.{IsPermutation, IsSorted, IsStrictlySortedBy}}, Ordering.eq_by_cmp, declared.cmp.Ordering.TheVariants.Less}
use Rattle.std.proofs.{Common.{◌≡◌, Bool, true, false, cond, List, [], ◌∷◌, map, refl, sym, ap, ◌∙◌}, lemmas.{Cmp.on_total, List.{Kept.{Contains-dedup, Contains-from_dedup, IsStrictlySortedBy-dedup}, Sorted.{Contains-permutation, IsPermutation-map, IsPermutation-sym}}}}
use Rattle.span_keyed_tracks.proofs.SameKeys.{ascending-members}
use Rattle.span_table.proofs.OwnRows.{ascending-own}
use Rattle.span_comparisons.specs.{ascending, key_cmp_total, key_cmp-same, key_eq-same, TableKey, key_cmp}

-- what stands for keys
module _ {A : Type 0} (at : A → TableKey) where
  sorted-at : (xs : List A) → IsStrictlySortedBy (λ x y. key_cmp (at x) (at y)) xs → IsStrictlySortedBy key_cmp (map at xs)
  unfolding IsStrictlySortedBy
  sorted-at [] sorted = tt
  sorted-at (x ∷ xs) sorted = (below xs sorted.0, sorted-at xs sorted.1)
    where
      below : (ys : List A) → AllByRecursion (λ y. key_cmp (at x) (at y) ≡ Less) ys → AllByRecursion (λ k. key_cmp (at x) k ≡ Less) (map at ys)
      below [] h = tt
      below (y ∷ ys) h = (h.0, below ys h.1)

  abbrev same : A → A → Bool
  same x y = eq_by_cmp key_cmp (at x) (at y)

  map-dedup_from : (x : A) (xs : List A) → map at (dedup_from same x xs) ≡ dedup_from (eq_by_cmp key_cmp) (at x) (map at xs)
  map-dedup_from x [] = refl
  map-dedup_from x (y ∷ ys) = by (same y x) (map-dedup_from x ys) (map-dedup_from y ys)
    where
      by : (b : Bool) → map at (dedup_from same x ys) ≡ dedup_from (eq_by_cmp key_cmp) (at x) (map at ys) → map at (dedup_from same y ys) ≡ dedup_from (eq_by_cmp key_cmp) (at y) (map at ys) →
          map at (cond b (dedup_from same x ys) (x ∷ dedup_from same y ys)) ≡ cond b (dedup_from (eq_by_cmp key_cmp) (at x) (map at ys)) (at x ∷ dedup_from (eq_by_cmp key_cmp) (at y) (map at ys))
      by true kept next = kept
      by false kept next = ap (λ l. at x ∷ l) next

  map-dedup : (xs : List A) → map at (dedup same xs) ≡ dedup (eq_by_cmp key_cmp) (map at xs)
  map-dedup [] = refl
  map-dedup (x ∷ xs) = map-dedup_from x xs

  -- what a sort put in order, without what follows its like, is the keys in ascending order
  pub dedup-ascending : (xs ys : List A) → IsPermutation xs ys → IsSorted (λ x y. key_cmp (at x) (at y)) ys → map at (dedup same ys) ≡ ascending key_cmp (map at xs)
  dedup-ascending xs ys moved sorted =
      let rising : IsStrictlySortedBy key_cmp (map at (dedup same ys)) = sorted-at (dedup same ys) (IsStrictlySortedBy-dedup (on_total at key_cmp_total) (λ x y. refl) ys sorted) in
      sym (ascending-own key_cmp_total (map at (dedup same ys)) rising) ∙ ap (ascending key_cmp) (map-dedup ys)
      ∙ ascending-members key_cmp_total key_cmp-same (dedup (eq_by_cmp key_cmp) (map at ys)) (map at xs)
      (λ k has. Contains-permutation (map at ys) (map at xs) k (IsPermutation-sym (map at xs) (map at ys) there) (Contains-from_dedup (eq_by_cmp key_cmp) (map at ys) k has))
      (λ k has. Contains-dedup (eq_by_cmp_equiv key_cmp_total) key_eq-same (map at ys) k (Contains-permutation (map at xs) (map at ys) k there has))
    where
      there : IsPermutation (map at xs) (map at ys)
      there = IsPermutation-map at xs ys moved

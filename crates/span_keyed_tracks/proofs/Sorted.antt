-- Distinct keys in ascending order are sorted.
use Rattle.std.specs.{BTreeSet.insert_key, Cmp.IsTotalOrder, List.{AllByRecursion, Sorted.IsStrictlySortedBy}, Ordering.{match_ordering, ordering_reverse}, Prelude.fold, declared.cmp.Ordering.{Ordering, TheVariants.{Less, Equal, Greater}}}
use Rattle.std.proofs.Common.{◌≡◌, List, [], ◌∷◌, refl, ap, ◌∙◌}
use Rattle.span_keyed_tracks.specs.Keyed.{ascending}

-- what follows from a fact of each holds of each
pub AllByRecursion-map : {A : Type 0} (P Q : A → Type 0) → ((x : A) → P x → Q x) → (xs : List A) → AllByRecursion P xs → AllByRecursion Q xs
AllByRecursion-map P Q f [] h = tt
AllByRecursion-map P Q f (x ∷ xs) h = (f x h.0, AllByRecursion-map P Q f xs h.1)

module _ {K : Type 0} {R : K → K → Ordering} (o : IsTotalOrder R) where
  below-inserted : (x k : K) (ks : List K) → R x k ≡ Less → AllByRecursion (λ y. R x y ≡ Less) ks → AllByRecursion (λ y. R x y ≡ Less) (insert_key R ks k)
  below-inserted x k [] first rest = (first, tt)
  below-inserted x k (y ∷ ys) first rest = by (R k y) (below-inserted x k ys first rest.1)
    where
      by : (r : Ordering) → AllByRecursion (λ z. R x z ≡ Less) (insert_key R ys k) → AllByRecursion (λ z. R x z ≡ Less) (match_ordering r (k ∷ y ∷ ys) (y ∷ ys) (y ∷ insert_key R ys k))
      by Less more = (first, rest)
      by Equal more = rest
      by Greater more = (rest.0, more)

  pub insert_key-sorted : (k : K) (ks : List K) → IsStrictlySortedBy R ks → IsStrictlySortedBy R (insert_key R ks k)
  unfolding IsStrictlySortedBy
  insert_key-sorted k [] sorted = (tt, tt)
  insert_key-sorted k (x ∷ xs) sorted = by (R k x) refl (insert_key-sorted k xs sorted.1)
    where
      by : (r : Ordering) → R k x ≡ r → IsStrictlySortedBy R (insert_key R xs k) → IsStrictlySortedBy R (match_ordering r (k ∷ x ∷ xs) (x ∷ xs) (x ∷ insert_key R xs k))
      by Less below more = ((below, AllByRecursion-map (λ y. R x y ≡ Less) (λ y. R k y ≡ Less) (λ (y : K) (next : R x y ≡ Less). o.trans k x y below next) xs sorted.0), sorted)
      by Equal below more = sorted
      by Greater above more = (below-inserted x k xs (o.antisymm x k ∙ ap ordering_reverse above) sorted.0, more)

  fold-sorted : (keys done : List K) → IsStrictlySortedBy R done → IsStrictlySortedBy R (fold (insert_key R) done keys)
  fold-sorted [] done sorted = sorted
  fold-sorted (k ∷ keys) done sorted = fold-sorted keys (insert_key R done k) (insert_key-sorted k done sorted)

  -- distinct keys in ascending order are sorted
  pub ascending-sorted : (keys : List K) → IsStrictlySortedBy R (ascending R keys)
  unfolding IsStrictlySortedBy
  ascending-sorted keys = fold-sorted keys [] tt

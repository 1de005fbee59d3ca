-- Selecting before or after keys are put in order.
use Rattle.std.specs.{BTreeSet.insert_key, Cmp.IsTotalOrder, List.{AllByRecursion, Sorted.IsStrictlySortedBy}, Ordering.match_ordering, Prelude.{filter, fold}, declared.cmp.Ordering.{Ordering, TheVariants.{Less, Equal, Greater}}}
use Rattle.std.proofs.Common.{◌≡◌, List, [], ◌∷◌, Bool, true, false, cond, refl, sym, ap, ◌∙◌}
use Rattle.span_journal.specs.{ascending}
use Rattle.span_journal.proofs.Sorted.{AllByRecursion-map, insert_key-sorted}

-- what holds of all holds of those that are selected
AllByRecursion-filter : {A : Type 0} (P : A → Type 0) (p : A → Bool) (xs : List A) → AllByRecursion P xs → AllByRecursion P (filter p xs)
AllByRecursion-filter P p [] h = tt
AllByRecursion-filter P p (x ∷ xs) h = elim (p x) as (λ b. AllByRecursion P (cond b (x ∷ filter p xs) (filter p xs))) [ true ↦ (h.0, AllByRecursion-filter P p xs h.1) | false ↦ AllByRecursion-filter P p xs h.1 ]

module _ {K : Type 0} {R : K → K → Ordering} (o : IsTotalOrder R) where
  -- a key below all others comes first
  insert_key-first : (k : K) (ks : List K) → AllByRecursion (λ y. R k y ≡ Less) ks → insert_key R ks k ≡ k ∷ ks
  insert_key-first k [] below = refl
  insert_key-first k (x ∷ xs) below = ap (λ r. match_ordering r (k ∷ x ∷ xs) (x ∷ xs) (x ∷ insert_key R xs k)) below.0

  -- a selection that distinguishes no keys but those that the order does
  module _ (p : K → Bool) (same : (a b : K) → R a b ≡ Equal → p a ≡ p b) where
    filter-insert_key : (k : K) (ks : List K) → IsStrictlySortedBy R ks → filter p (insert_key R ks k) ≡ cond (p k) (insert_key R (filter p ks) k) (filter p ks)
    unfolding IsStrictlySortedBy
    filter-insert_key k [] sorted = elim (p k) as (λ b. cond b (k ∷ []) [] ≡ cond b (k ∷ []) []) [ true ↦ refl | false ↦ refl ]
    filter-insert_key k (x ∷ xs) sorted = by (R k x) refl (filter-insert_key k xs sorted.1)
      where
        chosen : List K
        chosen = filter p (x ∷ xs)

        at_equal : (b : Bool) → R k x ≡ Equal → cond b (x ∷ filter p xs) (filter p xs) ≡ cond b (insert_key R (cond b (x ∷ filter p xs) (filter p xs)) k) (cond b (x ∷ filter p xs) (filter p xs))
        at_equal true e = sym (ap (λ r. match_ordering r (k ∷ x ∷ filter p xs) (x ∷ filter p xs) (x ∷ insert_key R (filter p xs) k)) e)
        at_equal false e = refl

        at_greater : (b c : Bool) → R k x ≡ Greater → filter p (insert_key R xs k) ≡ cond b (insert_key R (filter p xs) k) (filter p xs) →
            cond c (x ∷ filter p (insert_key R xs k)) (filter p (insert_key R xs k)) ≡ cond b (insert_key R (cond c (x ∷ filter p xs) (filter p xs)) k) (cond c (x ∷ filter p xs) (filter p xs))
        at_greater true true e rest = ap (λ l. x ∷ l) rest ∙ sym (ap (λ r. match_ordering r (k ∷ x ∷ filter p xs) (x ∷ filter p xs) (x ∷ insert_key R (filter p xs) k)) e)
        at_greater true false e rest = rest
        at_greater false true e rest = ap (λ l. x ∷ l) rest
        at_greater false false e rest = rest

        by : (r : Ordering) → R k x ≡ r → filter p (insert_key R xs k) ≡ cond (p k) (insert_key R (filter p xs) k) (filter p xs) →
            filter p (match_ordering r (k ∷ x ∷ xs) (x ∷ xs) (x ∷ insert_key R xs k)) ≡ cond (p k) (insert_key R (filter p (x ∷ xs)) k) (filter p (x ∷ xs))
        by Less e rest =
            let below : AllByRecursion (λ y. R k y ≡ Less) (x ∷ xs) = (e, AllByRecursion-map (λ y. R x y ≡ Less) (λ y. R k y ≡ Less) (λ (y : K) (next : R x y ≡ Less). o.trans k x y e next) xs sorted.0) in
            ap (λ l. cond (p k) l (filter p (x ∷ xs))) (sym (insert_key-first k (filter p (x ∷ xs)) (AllByRecursion-filter (λ y. R k y ≡ Less) p (x ∷ xs) below)))
        by Equal e rest = ap (λ b. cond b (x ∷ filter p xs) (filter p xs)) (sym (same k x e)) ∙ at_equal (p k) e ∙ ap (λ b. cond (p k) (insert_key R (cond b (x ∷ filter p xs) (filter p xs)) k) (cond b (x ∷ filter p xs) (filter p xs))) (same k x e)
        by Greater e rest = at_greater (p k) (p x) e rest

    filter-fold : (keys done : List K) → IsStrictlySortedBy R done → filter p (fold (insert_key R) done keys) ≡ fold (insert_key R) (filter p done) (filter p keys)
    filter-fold [] done sorted = refl
    filter-fold (k ∷ keys) done sorted =
        filter-fold keys (insert_key R done k) (insert_key-sorted o k done sorted)
        ∙ ap (λ d. fold (insert_key R) d (filter p keys)) (filter-insert_key k done sorted)
        ∙ (elim (p k) as (λ b. fold (insert_key R) (cond b (insert_key R (filter p done) k) (filter p done)) (filter p keys) ≡ fold (insert_key R) (filter p done) (cond b (k ∷ filter p keys) (filter p keys))) [ true ↦ refl | false ↦ refl ])

    -- the selected ones of the keys in order are the selected keys in order
    pub filter-ascending : (keys : List K) → filter p (ascending R keys) ≡ ascending R (filter p keys)
    unfolding IsStrictlySortedBy
    filter-ascending keys = filter-fold keys [] tt

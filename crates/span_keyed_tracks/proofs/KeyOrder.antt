-- Entries with distinct keys, and the same put in the order of keys.
use Rattle.std.specs.{BTreeMap.insert_entry, BTreeSet.insert_key, Cmp.IsTotalOrder, List.{AllByRecursion, IsDistinct}, Map.keys_of, Ordering.{eq_by_cmp, is_eq, match_ordering}, Prelude.fold, declared.cmp.Ordering.{Ordering, TheVariants.{Less, Equal, Greater}}}
use Rattle.std.proofs.Common.{◌≡◌, List, [], ◌∷◌, Bool, true, false, ◌||◌, refl, sym, ap, ap₂, ◌∙◌, map}
use Rattle.span_keyed_tracks.proofs.{Keyed.{has_key, neither, keys_of-insert_entry}, Uses.{AreApart, is_eq-turned}}

module _ {K : Type 0} {cmp : K → K → Ordering} (o : IsTotalOrder cmp) (same : (a b : K) → cmp a b ≡ Equal → a ≡ b) where
  twice : (b r : Bool) → (b || r) ≡ (b || (b || r))
  twice true r = refl
  twice false r = refl

  turned : (a b r : Bool) → (a || (b || r)) ≡ (b || (a || r))
  turned true true r = refl
  turned true false r = refl
  turned false true r = refl
  turned false false r = refl

  -- the keys after one more
  pub has_key-insert_key : (k x : K) (ks : List K) → has_key cmp k (insert_key cmp ks x) ≡ (is_eq (cmp k x) || has_key cmp k ks)
  has_key-insert_key k x [] = refl
  has_key-insert_key k x (y ∷ ys) = by (cmp x y) refl (has_key-insert_key k x ys)
    where
      by : (r : Ordering) → cmp x y ≡ r → has_key cmp k (insert_key cmp ys x) ≡ (is_eq (cmp k x) || has_key cmp k ys) →
          has_key cmp k (match_ordering r (x ∷ y ∷ ys) (y ∷ ys) (y ∷ insert_key cmp ys x)) ≡ (is_eq (cmp k x) || (is_eq (cmp k y) || has_key cmp k ys))
      by Less e rest = refl
      by Equal e rest = twice (is_eq (cmp k y)) (has_key cmp k ys) ∙ ap (λ z. is_eq (cmp k z) || (is_eq (cmp k y) || has_key cmp k ys)) (sym (same x y e))
      by Greater e rest = ap (λ b. is_eq (cmp k y) || b) rest ∙ turned (is_eq (cmp k y)) (is_eq (cmp k x)) (has_key cmp k ys)

  module _ {A : Type 0} (key : A → K) where
    -- rows by their keys
    abbrev pub by_key : A → A → Ordering
    by_key a b = cmp (key a) (key b)

    module _ {X : Type 0} (row : K × X → A) (made : (e : K × X) → key (row e) ≡ e.0) where
      none_tied : (e : K × X) (es : List (K × X)) → has_key cmp e.0 (keys_of es) ≡ false → AllByRecursion (λ other. eq_by_cmp by_key (row e) other ≡ false) (map row es)
      none_tied e [] none = tt
      none_tied e (x ∷ xs) none =
          let parts = neither (is_eq (cmp e.0 x.0)) (has_key cmp e.0 (keys_of xs)) none in
          (ap₂ (λ a b. is_eq (cmp a b)) (made e) (made x) ∙ parts.0, none_tied e xs parts.1)

      -- rows of entries whose keys are apart are distinct
      pub IsDistinct-rows : (es : List (K × X)) → AreApart o (keys_of es) → IsDistinct (eq_by_cmp by_key) (map row es)
      unfolding IsDistinct
      IsDistinct-rows [] apart = tt
      IsDistinct-rows (e ∷ es) apart = (none_tied e es apart.0, IsDistinct-rows es apart.1)

      insert_key-row : (done : List (K × X)) (e : K × X) → has_key cmp e.0 (keys_of done) ≡ false → insert_key by_key (map row done) (row e) ≡ map row (insert_entry cmp done e.0 e.1)
      insert_key-row [] e none = refl
      insert_key-row (x ∷ xs) e none =
          let parts = neither (is_eq (cmp e.0 x.0)) (has_key cmp e.0 (keys_of xs)) none in
          ap (λ r. match_ordering r (row e ∷ row x ∷ map row xs) (row x ∷ map row xs) (row x ∷ insert_key by_key (map row xs) (row e))) (ap₂ cmp (made e) (made x))
          ∙ by (cmp e.0 x.0) parts.0 (insert_key-row xs e parts.1)
        where
          by : (r : Ordering) → is_eq r ≡ false → insert_key by_key (map row xs) (row e) ≡ map row (insert_entry cmp xs e.0 e.1) →
              match_ordering r (row e ∷ row x ∷ map row xs) (row x ∷ map row xs) (row x ∷ insert_key by_key (map row xs) (row e)) ≡ map row (match_ordering r ((e.0, e.1) ∷ x ∷ xs) ((x.0, e.1) ∷ xs) (x ∷ insert_entry cmp xs e.0 e.1))
          by Less apart rest = refl
          by Equal apart rest = cc
          by Greater apart rest = ap (λ l. row x ∷ l) rest

      -- none of these keys is among those that are done
      abbrev AreNew : List (K × X) → List (K × X) → Type 0
      AreNew done es = AllByRecursion (λ e. has_key cmp e.0 (keys_of done) ≡ false) es

      AreNew-inserted : (done es : List (K × X)) (e : K × X) → has_key cmp e.0 (keys_of es) ≡ false → AreNew done es → AreNew (insert_entry cmp done e.0 e.1) es
      AreNew-inserted done [] e none new = tt
      AreNew-inserted done (x ∷ xs) e none new =
          let parts = neither (is_eq (cmp e.0 x.0)) (has_key cmp e.0 (keys_of xs)) none in (
            ap (has_key cmp x.0) (keys_of-insert_entry cmp done e.0 e.1) ∙ has_key-insert_key x.0 e.0 (keys_of done) ∙ ap₂ (λ a b. a || b) (is_eq-turned o x.0 e.0 ∙ parts.0) new.0,
            AreNew-inserted done xs e parts.1 new.1,
          )

      -- rows of entries whose keys are apart, in ascending order, are the rows of the entries in this order
      pub fold-rows : (done es : List (K × X)) → AreApart o (keys_of es) → AreNew done es → fold (insert_key by_key) (map row done) (map row es) ≡ map row (fold (λ m e. insert_entry cmp m e.0 e.1) done es)
      fold-rows done [] apart new = refl
      fold-rows done (e ∷ es) apart new =
          ap (λ l. fold (insert_key by_key) l (map row es)) (insert_key-row done e new.0)
          ∙ fold-rows (insert_entry cmp done e.0 e.1) es apart.1 (AreNew-inserted done es e apart.0 new.1)

      AreNew-nothing : (es : List (K × X)) → AreNew [] es
      AreNew-nothing [] = tt
      AreNew-nothing (e ∷ es) = (refl, AreNew-nothing es)

      pub ascending-rows : (es : List (K × X)) → AreApart o (keys_of es) → fold (insert_key by_key) [] (map row es) ≡ map row (fold (λ m e. insert_entry cmp m e.0 e.1) [] es)
      ascending-rows es apart = fold-rows [] es apart (AreNew-nothing es)

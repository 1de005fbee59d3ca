-- How what is kept for the keys that events use changes with one more use.
use Rattle.std.specs.{BTreeMap.{is_at, insert_entry}, BTreeSet.insert_key, Cmp.IsTotalOrder, Map.lookup, Ordering.{is_eq, eq_by_cmp, match_ordering, ordering_reverse}, Prelude.{fold, is_some}, declared.cmp.Ordering.{Ordering, TheVariants.{Less, Equal, Greater}}}
use Rattle.std.proofs.{Common.{◌≡◌, List, [], ◌∷◌, ◌++◌, Bool, true, false, ◌||◌, cond, None, refl, sym, ap, ap₂, ◌∙◌, map}, lemmas.List.Sums.fold-append}
use Rattle.indexmap.specs.{IndexMap.insert_entry as put_entry, IndexSet.insert_key as add_key}
use Rattle.span_keyed_tracks.specs.{Keyed.{ascending, entry_of}, Uses.first_uses}
use Rattle.span_keyed_tracks.proofs.{Ascending.ascending-fold, Keyed.{has_key, neither, same_from_is_eq, is_some-lookup, keys_of-made}}

module _ {K : Type 0} {cmp : K → K → Ordering} (o : IsTotalOrder cmp) where
  -- which of two keys is asked about is all one
  pub is_eq-turned : (a b : K) → is_eq (cmp a b) ≡ is_eq (cmp b a)
  is_eq-turned a b = ap is_eq (o.antisymm a b) ∙ elim (cmp b a) as (λ r. is_eq (ordering_reverse r) ≡ is_eq r) [ Less ↦ refl | Equal ↦ refl | Greater ↦ refl ]

  -- no key is among those after it
  abbrev pub AreApart : List K → Type 0
  AreApart [] = Unit {0}
  AreApart (k ∷ ks) = (has_key cmp k ks ≡ false) × AreApart ks

  has_key-push : (key : K) (ks : List K) (k : K) → has_key cmp key ks ≡ false → is_eq (cmp key k) ≡ false → has_key cmp key (ks ++ k ∷ []) ≡ false
  has_key-push key [] k none apart = ap (λ b. b || false) apart
  has_key-push key (x ∷ xs) k none apart =
      let parts = neither (is_eq (cmp key x)) (has_key cmp key xs) none in
      ap₂ (λ a b. a || b) parts.0 (has_key-push key xs k parts.1 apart)

  AreApart-push : (ks : List K) (k : K) → AreApart ks → has_key cmp k ks ≡ false → AreApart (ks ++ k ∷ [])
  AreApart-push [] k apart none = (refl, tt)
  AreApart-push (x ∷ xs) k apart none =
      let parts = neither (is_eq (cmp k x)) (has_key cmp k xs) none in
      (has_key-push x xs k apart.0 (is_eq-turned x k ∙ parts.0), AreApart-push xs k apart.1 parts.1)

  AreApart-add_key : (ks : List K) (k : K) → AreApart ks → AreApart (add_key (eq_by_cmp cmp) ks k)
  AreApart-add_key ks k apart = by (has_key cmp k ks) refl
    where
      by : (b : Bool) → has_key cmp k ks ≡ b → AreApart (cond b ks (ks ++ k ∷ []))
      by true h = apart
      by false h = AreApart-push ks k apart h

  -- the distinct keys in the order of their first use are apart
  pub AreApart-fold : (done ks : List K) → AreApart done → AreApart (fold (add_key (eq_by_cmp cmp)) done ks)
  AreApart-fold done [] apart = apart
  AreApart-fold done (k ∷ ks) apart = AreApart-fold (add_key (eq_by_cmp cmp) done k) ks (AreApart-add_key done k apart)

module _ {K : Type 0} {cmp : K → K → Ordering} (o : IsTotalOrder cmp) (same : (a b : K) → cmp a b ≡ Equal → a ≡ b) where
  module _ {X : Type 0} (f g : K → X) (key : K) (agree : (k : K) → is_eq (cmp key k) ≡ false → f k ≡ g k) where
    made-agree : (ks : List K) → has_key cmp key ks ≡ false → map (entry_of f) ks ≡ map (entry_of g) ks
    made-agree [] none = refl
    made-agree (k ∷ ks) none =
        let parts = neither (is_eq (cmp key k)) (has_key cmp key ks) none in
        ap₂ (λ x l. (k, x) ∷ l) (agree k parts.0) (made-agree ks parts.1)

    made-put_entry : (ks : List K) → AreApart o ks → put_entry (eq_by_cmp cmp) (map (entry_of f) ks) key (g key) ≡ map (entry_of g) (add_key (eq_by_cmp cmp) ks key)
    made-put_entry [] apart = refl
    made-put_entry (k ∷ ks) apart = by (is_eq (cmp key k)) refl (made-put_entry ks apart.1)
      where
        pushed : (b : Bool) → (k, g k) ∷ map (entry_of g) (cond b ks (ks ++ key ∷ [])) ≡ map (entry_of g) (cond b (k ∷ ks) (k ∷ ks ++ key ∷ []))
        pushed true = refl
        pushed false = refl

        by : (b : Bool) → is_eq (cmp key k) ≡ b → put_entry (eq_by_cmp cmp) (map (entry_of f) ks) key (g key) ≡ map (entry_of g) (add_key (eq_by_cmp cmp) ks key) →
            cond b ((k, g key) ∷ map (entry_of f) ks) ((k, f k) ∷ put_entry (eq_by_cmp cmp) (map (entry_of f) ks) key (g key)) ≡ map (entry_of g) (cond (b || has_key cmp key ks) (k ∷ ks) (k ∷ ks ++ key ∷ []))
        by true h rest =
            let is : key ≡ k = same_from_is_eq o same key k h in
            ap₂ (λ x l. (k, x) ∷ l) (ap g is) (made-agree ks (ap (λ q. has_key cmp q ks) is ∙ apart.0))
        by false h rest = ap₂ (λ x l. (k, x) ∷ l) (agree k h) rest ∙ pushed (has_key cmp key ks)

    -- what is kept, once there is one more use of the key
    pub first_uses-after : (ks : List K) (kept : List (K × X)) (new : X) → kept ≡ map (entry_of f) (first_uses cmp ks) → new ≡ g key →
        put_entry (eq_by_cmp cmp) kept key new ≡ map (entry_of g) (first_uses cmp (ks ++ key ∷ []))
    first_uses-after ks kept new stands is =
        ap₂ (λ l x. put_entry (eq_by_cmp cmp) l key x) stands is
        ∙ made-put_entry (first_uses cmp ks) (AreApart-fold o [] ks tt)
        ∙ ap (map (entry_of g)) (sym (fold-append (add_key (eq_by_cmp cmp)) [] ks (key ∷ [])))

  has_key-add_key : (key x : K) (ks : List K) → has_key cmp key (add_key (eq_by_cmp cmp) ks x) ≡ false → (is_eq (cmp key x) ≡ false) × (has_key cmp key ks ≡ false)
  has_key-add_key key x ks none = by (has_key cmp x ks) refl none
    where
      apart : (b : Bool) → is_eq (cmp key x) ≡ b → has_key cmp key ks ≡ false → has_key cmp x ks ≡ true → b ≡ false
      apart true h none has = let clash : true ≡ false = sym has ∙ ap (λ q. has_key cmp q ks) (sym (same_from_is_eq o same key x h)) ∙ none in cc
      apart false h none has = refl

      pushed : (ks : List K) → has_key cmp key (ks ++ x ∷ []) ≡ false → (is_eq (cmp key x) ≡ false) × (has_key cmp key ks ≡ false)
      pushed [] none = ((neither (is_eq (cmp key x)) false none).0, refl)
      pushed (y ∷ ys) none =
          let parts = neither (is_eq (cmp key y)) (has_key cmp key (ys ++ x ∷ [])) none in
          let rest = pushed ys parts.1 in
          (rest.0, ap₂ (λ a b. a || b) parts.0 rest.1)

      by : (b : Bool) → has_key cmp x ks ≡ b → has_key cmp key (cond b ks (ks ++ x ∷ [])) ≡ false → (is_eq (cmp key x) ≡ false) × (has_key cmp key ks ≡ false)
      by true h none = (apart (is_eq (cmp key x)) refl none h, none)
      by false h none = pushed ks none

  has_key-fold : (key : K) (done ks : List K) → has_key cmp key (fold (add_key (eq_by_cmp cmp)) done ks) ≡ false → (has_key cmp key ks ≡ false) × (has_key cmp key done ≡ false)
  has_key-fold key done [] none = (refl, none)
  has_key-fold key done (k ∷ ks) none =
      let rest = has_key-fold key (add_key (eq_by_cmp cmp) done k) ks none in
      let parts = has_key-add_key key k done rest.1 in
      (ap₂ (λ a b. a || b) parts.0 rest.0, parts.1)

  -- a key for which nothing is kept is not used
  pub has_key-absent : {X : Type 0} (f : K → X) (ks : List K) (key : K) → lookup (is_at (cmp key)) (map (entry_of f) (first_uses cmp ks)) ≡ None → has_key cmp key ks ≡ false
  has_key-absent f ks key none =
      (has_key-fold key [] ks (ap (has_key cmp key) (sym (keys_of-made f (first_uses cmp ks))) ∙ sym (is_some-lookup (is_at (cmp key)) (map (entry_of f) (first_uses cmp ks))) ∙ ap is_some none)).0

  module _ {X : Type 0} (f : K → X) where
    made-insert_entry : (ks : List K) (k : K) → insert_entry cmp (map (entry_of f) ks) k (f k) ≡ map (entry_of f) (insert_key cmp ks k)
    made-insert_entry [] k = refl
    made-insert_entry (x ∷ xs) k = by (cmp k x) refl (made-insert_entry xs k)
      where
        by : (r : Ordering) → cmp k x ≡ r → insert_entry cmp (map (entry_of f) xs) k (f k) ≡ map (entry_of f) (insert_key cmp xs k) →
            match_ordering r ((k, f k) ∷ (x, f x) ∷ map (entry_of f) xs) ((x, f k) ∷ map (entry_of f) xs) ((x, f x) ∷ insert_entry cmp (map (entry_of f) xs) k (f k)) ≡ map (entry_of f) (match_ordering r (k ∷ x ∷ xs) (x ∷ xs) (x ∷ insert_key cmp xs k))
        by Less e rest = refl
        by Equal e rest = ap (λ v. (x, v) ∷ map (entry_of f) xs) (ap f (same k x e))
        by Greater e rest = ap (λ l. (x, f x) ∷ l) rest

    -- the entries of keys, inserted one after another
    pub made-fold : (done ks : List K) → fold (λ m (e : K × X). insert_entry cmp m e.0 e.1) (map (entry_of f) done) (map (entry_of f) ks) ≡ map (entry_of f) (fold (insert_key cmp) done ks)
    made-fold done [] = refl
    made-fold done (k ∷ ks) = ap (λ m. fold (λ m (e : K × X). insert_entry cmp m e.0 e.1) m (map (entry_of f) ks)) (made-insert_entry done k) ∙ made-fold (insert_key cmp done k) ks

    tied : (a b : K) → eq_by_cmp cmp a b ≡ true → a ≡ b
    tied a b h = same_from_is_eq o same a b h

    -- what is kept for keys, put in their order
    pub first_uses-ascending : (ks : List K) → fold (λ m (e : K × X). insert_entry cmp m e.0 e.1) [] (map (entry_of f) (first_uses cmp ks)) ≡ map (entry_of f) (ascending cmp ks)
    first_uses-ascending ks = made-fold [] (first_uses cmp ks) ∙ ap (map (entry_of f)) (ascending-fold o same (eq_by_cmp cmp) tied [] ks)

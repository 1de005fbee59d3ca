-- What is kept by hashes of keys, seen in the order of keys.
use Rattle.std.specs.{BTreeMap.{is_at, insert_entry}, BTreeSet.insert_key, Cmp.{IsTotalOrder, tied_itself}, List.{AllByRecursion, IsDistinct, Sorted.IsStrictlySortedBy}, Map.{keys_of, lookup, set_value}, Ordering.{eq_by_cmp, is_eq}, Prelude.{fold, is_some, unwrap_or}, declared.cmp.Ordering.{Ordering, TheVariants.Equal}}
use Rattle.std.proofs.Common.{◌≡◌, List, [], ◌∷◌, ◌++◌, Bool, true, false, ◌||◌, cond, Option, Some, None, refl, sym, ap, ap₂, subst, ◌∙◌, map}
use Rattle.indexmap.specs.{IndexMap.insert_entry as put_entry, IndexSet.insert_key as add_key}
use Rattle.indexmap.proofs.SetLemmas.{keys_insert_entry}
use Rattle.span_keyed_tracks.specs.Keyed.{AreDistinct, ascending, entry_of, in_key_order, kept_at}
use Rattle.span_keyed_tracks.proofs.{Ascending.ascending-add_key, KeyChange.insert_entry-found, KeyOrder.has_key-insert_key, Keyed.{has_key, neither, is_some-lookup, keys_of-made, lookup-made, made-insert_entry, same_from_is_eq}, Sorted.ascending-sorted, Uses.{AreApart, is_eq-turned, made-fold}}

module _ {K : Type 0} {cmp : K → K → Ordering} (o : IsTotalOrder cmp) where
  has_key-none : (k : K) (ks : List K) → AllByRecursion (λ y. eq_by_cmp cmp k y ≡ false) ks → has_key cmp k ks ≡ false
  has_key-none k [] none = refl
  has_key-none k (x ∷ xs) none = ap₂ (λ a b. a || b) none.0 (has_key-none k xs none.1)

  -- distinct keys are apart
  pub AreApart-distinct : (ks : List K) → IsDistinct (eq_by_cmp cmp) ks → AreApart o ks
  unfolding IsDistinct
  AreApart-distinct [] distinct = tt
  AreApart-distinct (k ∷ ks) distinct = (has_key-none k ks distinct.0, AreApart-distinct ks distinct.1)

  module _ {X : Type 0} (none : X) where
    kept_at-later : (e : K × X) (es : List (K × X)) (ks : List K) → has_key cmp e.0 ks ≡ false → map (entry_of (kept_at cmp none (e ∷ es))) ks ≡ map (entry_of (kept_at cmp none es)) ks
    kept_at-later e es [] apart = refl
    kept_at-later e es (k ∷ ks) apart =
        let parts = neither (is_eq (cmp e.0 k)) (has_key cmp e.0 ks) apart in
        ap₂ (λ x l. (k, x) ∷ l) (ap (λ b. unwrap_or (cond b (Some e.1) (lookup (is_at (cmp k)) es)) none) (is_eq-turned o k e.0 ∙ parts.0)) (kept_at-later e es ks parts.1)

    -- each entry is its key with what is kept there
    pub entries-made : (es : List (K × X)) → AreApart o (keys_of es) → es ≡ map (entry_of (kept_at cmp none es)) (keys_of es)
    entries-made [] apart = refl
    entries-made (e ∷ es) apart =
        ap₂ (λ x l. (e.0, x) ∷ l) (sym (ap (λ r. unwrap_or (cond (is_eq r) (Some e.1) (lookup (is_at (cmp e.0)) es)) none) (tied_itself o e.0)))
        (entries-made es apart.1 ∙ sym (kept_at-later e es (keys_of es) apart.0))

module _ {K : Type 0} {cmp : K → K → Ordering} (o : IsTotalOrder cmp) (same : (a b : K) → cmp a b ≡ Equal → a ≡ b) where
  mixed : (a b r : Bool) → (b || (a || r)) ≡ ((a || b) || r)
  mixed true true r = refl
  mixed true false r = refl
  mixed false true r = refl
  mixed false false r = refl

  or_nothing : (a : Bool) → (a || false) ≡ a
  or_nothing true = refl
  or_nothing false = refl

  has_key-fold : (k : K) (done ks : List K) → has_key cmp k (fold (insert_key cmp) done ks) ≡ (has_key cmp k ks || has_key cmp k done)
  has_key-fold k done [] = refl
  has_key-fold k done (x ∷ xs) =
      has_key-fold k (insert_key cmp done x) xs ∙ ap (λ b. has_key cmp k xs || b) (has_key-insert_key o same k x done) ∙ mixed (is_eq (cmp k x)) (has_key cmp k xs) (has_key cmp k done)

  has_key-ascending : (k : K) (ks : List K) → has_key cmp k (ascending cmp ks) ≡ has_key cmp k ks
  has_key-ascending k ks = has_key-fold k [] ks ∙ or_nothing (has_key cmp k ks)

  module _ {X : Type 0} (none : X) where
    -- the keys of these entries, each once, in ascending order, with what is kept there
    abbrev made : List (K × X) → List (K × X)
    made es = map (entry_of (kept_at cmp none es)) (ascending cmp (keys_of es))

    made-sorted : (es : List (K × X)) → IsStrictlySortedBy cmp (keys_of (made es))
    made-sorted es = rw (keys_of-made (kept_at cmp none es) (ascending cmp (keys_of es))) (ascending-sorted o (keys_of es))

    lookup-made_order : (es : List (K × X)) (k : K) → lookup (is_at (cmp k)) (made es) ≡ lookup (is_at (cmp k)) es
    lookup-made_order es k = by (lookup (is_at (cmp k)) es) refl (lookup (is_at (cmp k)) (made es)) refl
      where
        there : is_some (lookup (is_at (cmp k)) (made es)) ≡ is_some (lookup (is_at (cmp k)) es)
        there =
            is_some-lookup (is_at (cmp k)) (made es) ∙ ap (has_key cmp k) (keys_of-made (kept_at cmp none es) (ascending cmp (keys_of es)))
            ∙ has_key-ascending k (keys_of es) ∙ sym (is_some-lookup (is_at (cmp k)) es)

        by : (a : Option X) → lookup (is_at (cmp k)) es ≡ a → (b : Option X) → lookup (is_at (cmp k)) (made es) ≡ b → b ≡ a
        by None e None h = refl
        by None e (Some w) h = let clash : true ≡ false = sym (ap is_some h) ∙ there ∙ ap is_some e in cc
        by (Some v) e None h = let clash : false ≡ true = sym (ap is_some h) ∙ there ∙ ap is_some e in cc
        by (Some v) e (Some w) h = ap Some (lookup-made o same (kept_at cmp none es) k (ascending cmp (keys_of es)) w h ∙ ap (λ x. unwrap_or x none) e)

    made-changed : (es after : List (K × X)) (key : K) (value : X) → keys_of after ≡ add_key (eq_by_cmp cmp) (keys_of es) key → lookup (is_at (cmp key)) after ≡ Some value →
        ((q : K) → is_eq (cmp key q) ≡ false → lookup (is_at (cmp q)) after ≡ lookup (is_at (cmp q)) es) → made after ≡ insert_entry cmp (made es) key value
    made-changed es after key value keys here others =
        let f = kept_at cmp none es in
        let g = kept_at cmp none after in
        let agree : (k : K) → is_eq (cmp key k) ≡ false → f k ≡ g k = λ k apart. ap (λ x. unwrap_or x none) (sym (others k apart)) in
        let ks = ascending cmp (keys_of es) in
        sym (ap (insert_entry cmp (map (entry_of f) ks) key) (sym (ap (λ x. unwrap_or x none) here))
        ∙ made-insert_entry o same f g key agree ks (ascending-sorted o (keys_of es))
        ∙ ap (map (entry_of g)) (sym (ascending-add_key o same (eq_by_cmp cmp) (same_from_is_eq o same) (keys_of es) key) ∙ ap (ascending cmp) (sym keys)))

    -- distinct entries are in the order of keys
    pub in_key_order-made : (es : List (K × X)) → AreDistinct cmp es → in_key_order cmp es ≡ made es
    in_key_order-made es distinct =
        ap (fold (λ m (e : K × X). insert_entry cmp m e.0 e.1) []) (entries-made o none es (AreApart-distinct o (keys_of es) distinct)) ∙ made-fold o same (kept_at cmp none es) [] (keys_of es)

    pub in_key_order-sorted : (es : List (K × X)) → AreDistinct cmp es → IsStrictlySortedBy cmp (keys_of (in_key_order cmp es))
    in_key_order-sorted es distinct = rw (in_key_order-made es distinct) (made-sorted es)

    lookup-some : (es : List (K × X)) (k : K) → AreDistinct cmp es → lookup (is_at (cmp k)) (in_key_order cmp es) ≡ lookup (is_at (cmp k)) es
    lookup-some es k distinct = ap (lookup (is_at (cmp k))) (in_key_order-made es distinct) ∙ lookup-made_order es k

    -- what is kept at one key was changed, or is new
    pub in_key_order-changed : (es after : List (K × X)) (key : K) (value : X) → AreDistinct cmp es → AreDistinct cmp after → keys_of after ≡ add_key (eq_by_cmp cmp) (keys_of es) key →
        lookup (is_at (cmp key)) after ≡ Some value → ((q : K) → is_eq (cmp key q) ≡ false → lookup (is_at (cmp q)) after ≡ lookup (is_at (cmp q)) es) →
        in_key_order cmp after ≡ insert_entry cmp (in_key_order cmp es) key value
    in_key_order-changed es after key value before later keys here others =
        in_key_order-made after later ∙ made-changed es after key value keys here others ∙ ap (λ l. insert_entry cmp l key value) (sym (in_key_order-made es before))

  -- what is found at a key stays
  pub lookup-in_key_order : {X : Type 0} (es : List (K × X)) (k : K) → AreDistinct cmp es → lookup (is_at (cmp k)) (in_key_order cmp es) ≡ lookup (is_at (cmp k)) es
  lookup-in_key_order [] k distinct = refl
  lookup-in_key_order (e ∷ es) k distinct = lookup-some e.1 (e ∷ es) k distinct

  -- a key that is there is no new one
  pub keys-present : {X : Type 0} (es after : List (K × X)) (key : K) (value : X) → lookup (is_at (cmp key)) es ≡ Some value → keys_of after ≡ keys_of es → keys_of after ≡ add_key (eq_by_cmp cmp) (keys_of es) key
  keys-present es after key value found kept =
      let there : has_key cmp key (keys_of es) ≡ true = sym (is_some-lookup (is_at (cmp key)) es) ∙ ap is_some found in
      kept ∙ ap (λ b. cond b (keys_of es) (keys_of es ++ key ∷ [])) (sym there)

-- where a map distinguishes keys as their order does
module _ {K X : Type 0} {cmp : K → K → Ordering} (o : IsTotalOrder cmp) (same : (a b : K) → cmp a b ≡ Equal → a ≡ b) {eq : K → K → Bool} (matches : (a b : K) → eq a b ≡ is_eq (cmp a b)) where
  -- what is found is the same
  pub lookup-matches : (k : K) (es : List (K × X)) → lookup (eq k) es ≡ lookup (is_at (cmp k)) es
  lookup-matches k es = ap (λ (test : K → Bool). lookup test es) (λ i x. matches k x i)

  pub AreDistinct-matches : (es : List (K × X)) → IsDistinct eq (keys_of es) → AreDistinct cmp es
  AreDistinct-matches es distinct = subst (λ (e : K → K → Bool). IsDistinct e (keys_of es)) (λ i x y. matches x y i) distinct

  -- the map finds what is kept in the order of keys
  pub found-in_key_order : (es : List (K × X)) (k : K) (found : Option X) → AreDistinct cmp es → found ≡ lookup (eq k) es → lookup (is_at (cmp k)) (in_key_order cmp es) ≡ found
  found-in_key_order es k found distinct is = lookup-in_key_order o same es k distinct ∙ sym (lookup-matches k es) ∙ sym is

  module _ (es after : List (K × X)) (key : K) (value : X) (distinct : AreDistinct cmp es) (later : IsDistinct eq (keys_of after)) (here : lookup (eq key) after ≡ Some value) (others : (q : K) → eq key q ≡ false → lookup (eq q) after ≡ lookup (eq q) es) where
    by_order : keys_of after ≡ add_key (eq_by_cmp cmp) (keys_of es) key → in_key_order cmp after ≡ insert_entry cmp (in_key_order cmp es) key value
    by_order keys =
        in_key_order-changed o same value es after key value distinct (AreDistinct-matches after later) keys (sym (lookup-matches key after) ∙ here)
        (λ q apart. sym (lookup-matches q after) ∙ others q (matches key q ∙ apart) ∙ lookup-matches q es)

    -- a value was written at a key that is there
    pub in_key_order-written : (was : X) → Some was ≡ lookup (eq key) es → keys_of after ≡ keys_of es → in_key_order cmp after ≡ set_value (is_at (cmp key)) (in_key_order cmp es) value
    in_key_order-written was found keys =
        by_order (keys-present o same es after key was (sym (lookup-matches key es) ∙ sym found) keys)
        ∙ sym (insert_entry-found o (in_key_order cmp es) key was value (in_key_order-sorted o same value es distinct) (found-in_key_order es key (Some was) distinct found))

    -- a value was inserted
    pub in_key_order-put : after ≡ put_entry eq es key value → in_key_order cmp after ≡ insert_entry cmp (in_key_order cmp es) key value
    in_key_order-put put = by_order (ap keys_of put ∙ keys_insert_entry eq es key value ∙ ap (λ (e : K → K → Bool). add_key e (keys_of es) key) (λ i x y. matches x y i))

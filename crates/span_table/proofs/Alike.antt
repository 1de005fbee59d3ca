-- Sums under keys that add up alike are kept alike.
use Rattle.std.specs.{BTreeSet.insert_key, Cmp.{IsTotalOrder, eq_by_cmp_equiv, tied_itself}, List.{AllByRecursion, Contains, Sorted.IsStrictlySortedBy}, Ordering.{eq_by_cmp, is_eq}, Prelude.{flat_map, fold}, declared.cmp.Ordering.{Ordering, TheVariants.Equal}}
use Rattle.std.proofs.{Common.{◌≡◌, Bool, true, false, ◌||◌, List, [], ◌∷◌, ◌++◌, map, refl, sym, ap, ap₂, ◌∙◌}, lemmas.{List.map-append, Map.Views.list_any-from_Contains}}
use Rattle.indexmap.proofs.CallerLemmas.{Contains-list_any}
use Rattle.span_keyed_tracks.proofs.{KeyOrder.has_key-insert_key, Keyed.{has_key, same_from_is_eq}, SameKeys.{ascending-members, step_keys}, Sorted.{AllByRecursion-map, ascending-sorted}}
use Rattle.span_table.specs.{Keyed, ascending, entry_of, keys_in, steps_at, KeyLaws.{key_cmp_total, key_cmp-same}, Keys.{TableKey, key_cmp}, Sums.with_sums, Tables.{KeyedSums, summed, sums_together}, declared.sums.Sums.Sums}
use Rattle.span_table.proofs.Tallies.{made_of, tally-append, tally-made, under}

either : (a b : Bool) → b ≡ true → (a || b) ≡ true
either true b h = refl
either false b h = h

-- each of these keys is one of those
abbrev pub Within : {K : Type 0} → (K → K → Ordering) → List K → List K → Type 0
Within {K} cmp ks ls = (k : K) → has_key cmp k ks ≡ true → has_key cmp k ls ≡ true

-- both have the same keys, and the same sums under each
pub record AddUpAlike (es fs : KeyedSums) : Type 0 where
  pub there : Within key_cmp (step_keys es) (step_keys fs)
  pub back : Within key_cmp (step_keys fs) (step_keys es)
  pub sums : (k : TableKey) → sums_together (steps_at key_cmp k es) ≡ sums_together (steps_at key_cmp k fs)

-- lists of the same keys are one in ascending order
pub same_keys : (xs ys : List TableKey) → Within key_cmp xs ys → Within key_cmp ys xs → ascending key_cmp xs ≡ ascending key_cmp ys
same_keys xs ys there back = ascending-members key_cmp_total key_cmp-same xs ys (within xs ys there) (within ys xs back)
  where
    within : (xs ys : List TableKey) → Within key_cmp xs ys → (k : TableKey) → Contains xs k → Contains ys k
    within xs ys known k has = Contains-list_any (eq_by_cmp key_cmp) (same_from_is_eq key_cmp_total key_cmp-same) ys k (known k (list_any-from_Contains (eq_by_cmp_equiv key_cmp_total) k xs has))

-- what adds up alike is kept alike
pub summed-alike : (es fs : KeyedSums) → AddUpAlike es fs → summed es ≡ summed fs
summed-alike es fs alike =
    (λ i. map (entry_of (λ k. alike.sums k i)) (keys_in key_cmp es))
    ∙ ap (map (entry_of (λ k. sums_together (steps_at key_cmp k fs)))) (same_keys (step_keys es) (step_keys fs) alike.there alike.back)

pub AddUpAlike-refl : (es : KeyedSums) → AddUpAlike es es
AddUpAlike-refl es = record { there = λ k h. h; back = λ k h. h; sums = λ k. refl }

pub AddUpAlike-trans : (es fs gs : KeyedSums) → AddUpAlike es fs → AddUpAlike fs gs → AddUpAlike es gs
AddUpAlike-trans es fs gs one other = record { there = λ k h. other.there k (one.there k h); back = λ k h. one.back k (other.back k h); sums = λ k. one.sums k ∙ other.sums k }

-- a key is among two lists where it is among one of them
pub has_key-append : {K : Type 0} (cmp : K → K → Ordering) (k : K) (xs ys : List K) → has_key cmp k (xs ++ ys) ≡ (has_key cmp k xs || has_key cmp k ys)
has_key-append cmp k [] ys = refl
has_key-append cmp k (x ∷ xs) ys = ap (λ b. is_eq (cmp k x) || b) (has_key-append cmp k xs ys) ∙ grouped (is_eq (cmp k x)) (has_key cmp k xs) (has_key cmp k ys)
  where
    grouped : (a b c : Bool) → (a || (b || c)) ≡ ((a || b) || c)
    grouped true b c = refl
    grouped false b c = refl

pub step_keys-append : (k : TableKey) (es fs : KeyedSums) → has_key key_cmp k (step_keys (es ++ fs)) ≡ (has_key key_cmp k (step_keys es) || has_key key_cmp k (step_keys fs))
step_keys-append k es fs = ap (has_key key_cmp k) (map-append (λ (e : Keyed TableKey Sums). e.key) es fs) ∙ has_key-append key_cmp k (step_keys es) (step_keys fs)

-- the sums of a key among two lists
pub sums_at-append : (k : TableKey) (es fs : KeyedSums) → sums_together (steps_at key_cmp k (es ++ fs)) ≡ with_sums (sums_together (steps_at key_cmp k es)) (sums_together (steps_at key_cmp k fs))
sums_at-append k es fs = tally-append key_cmp k es fs

Within-append : (es fs es' fs' : KeyedSums) → Within key_cmp (step_keys es) (step_keys es') → Within key_cmp (step_keys fs) (step_keys fs') → Within key_cmp (step_keys (es ++ fs)) (step_keys (es' ++ fs'))
Within-append es fs es' fs' first second k h =
    step_keys-append k es' fs' ∙ by (has_key key_cmp k (step_keys es)) refl (sym (step_keys-append k es fs) ∙ h)
  where
    by : (b : Bool) → has_key key_cmp k (step_keys es) ≡ b → (b || has_key key_cmp k (step_keys fs)) ≡ true → (has_key key_cmp k (step_keys es') || has_key key_cmp k (step_keys fs')) ≡ true
    by true e h = ap (λ b. b || has_key key_cmp k (step_keys fs')) (first k e)
    by false e h = either (has_key key_cmp k (step_keys es')) (has_key key_cmp k (step_keys fs')) (second k h)

-- so do lists appended that add up alike
pub AddUpAlike-append : (es fs es' fs' : KeyedSums) → AddUpAlike es es' → AddUpAlike fs fs' → AddUpAlike (es ++ fs) (es' ++ fs')
AddUpAlike-append es fs es' fs' first second = record {
  there = Within-append es fs es' fs' first.there second.there;
  back = Within-append es' fs' es fs first.back second.back;
  sums = λ k. sums_at-append k es fs ∙ ap₂ with_sums (first.sums k) (second.sums k) ∙ sym (sums_at-append k es' fs');
}

pub AddUpAlike-flat_map : {A : Type 0} (f g : A → KeyedSums) → ((a : A) → AddUpAlike (f a) (g a)) → (xs : List A) → AddUpAlike (flat_map f xs) (flat_map g xs)
AddUpAlike-flat_map f g each [] = AddUpAlike-refl []
AddUpAlike-flat_map f g each (x ∷ xs) = AddUpAlike-append (f x) (flat_map f xs) (g x) (flat_map g xs) (each x) (AddUpAlike-flat_map f g each xs)

-- sums that are put together by some keys, and then under keys of the table, add up as they do under these at once
module _ {K : Type 0} {cmp : K → K → Ordering} (o : IsTotalOrder cmp) (same : (a b : K) → cmp a b ≡ Equal → a ≡ b) (g : K → TableKey) where
  own_keys : (es : List (Keyed K Sums)) → AllByRecursion (λ (e : Keyed K Sums). has_key cmp e.key (step_keys es) ≡ true) es
  own_keys [] = tt
  own_keys (e ∷ es) = (
    ap (λ r. is_eq r || has_key cmp e.key (step_keys es)) (tied_itself o e.key),
    AllByRecursion-map (λ (x : Keyed K Sums). has_key cmp x.key (step_keys es) ≡ true) (λ (x : Keyed K Sums). has_key cmp x.key (step_keys (e ∷ es)) ≡ true)
        (λ (x : Keyed K Sums) h. either (is_eq (cmp x.key e.key)) (has_key cmp x.key (step_keys es)) h) es (own_keys es),
  )

  has_key-fold : (k : K) (done ks : List K) → has_key cmp k (fold (insert_key cmp) done ks) ≡ (has_key cmp k ks || has_key cmp k done)
  has_key-fold k done [] = refl
  has_key-fold k done (x ∷ xs) =
      has_key-fold k (insert_key cmp done x) xs ∙ ap (λ b. has_key cmp k xs || b) (has_key-insert_key o same k x done) ∙ mixed (is_eq (cmp k x)) (has_key cmp k xs) (has_key cmp k done)
    where
      mixed : (a b r : Bool) → (b || (a || r)) ≡ ((a || b) || r)
      mixed true true r = refl
      mixed a b r = refl

  pub has_key-ascending : (k : K) (ks : List K) → has_key cmp k (ascending cmp ks) ≡ has_key cmp k ks
  has_key-ascending k ks = has_key-fold k [] ks ∙ or_nothing (has_key cmp k ks)
    where
      or_nothing : (a : Bool) → (a || false) ≡ a
      or_nothing true = refl
      or_nothing false = refl

  image_known : (k : K) (ls : List K) → has_key cmp k ls ≡ true → has_key key_cmp (g k) (map g ls) ≡ true
  image_known k [] h = cc
  image_known k (y ∷ ys) h = by (is_eq (cmp k y)) refl (image_known k ys) h
    where
      by : (b : Bool) → is_eq (cmp k y) ≡ b → (has_key cmp k ys ≡ true → has_key key_cmp (g k) (map g ys) ≡ true) → (b || has_key cmp k ys) ≡ true → has_key key_cmp (g k) (map g (y ∷ ys)) ≡ true
      by true e rest h = ap (λ r. is_eq r || has_key key_cmp (g k) (map g ys)) (ap (key_cmp (g k)) (ap g (sym (same_from_is_eq o same k y e))) ∙ tied_itself key_cmp_total (g k))
      by false e rest h = either (is_eq (key_cmp (g k) (g y))) (has_key key_cmp (g k) (map g ys)) (rest h)

  -- where keys are among others, so are those that they are put under
  Within-map : (ks ls : List K) → Within cmp ks ls → Within key_cmp (map g ks) (map g ls)
  Within-map [] ls known j h = cc
  Within-map (k ∷ ks) ls known j h = by (is_eq (key_cmp j (g k))) refl (Within-map ks ls (λ x has. known x (either (is_eq (cmp x k)) (has_key cmp x ks) has)) j) h
    where
      by : (b : Bool) → is_eq (key_cmp j (g k)) ≡ b → (has_key key_cmp j (map g ks) ≡ true → has_key key_cmp j (map g ls) ≡ true) → (b || has_key key_cmp j (map g ks)) ≡ true → has_key key_cmp j (map g ls) ≡ true
      by true e rest h =
          ap (λ x. has_key key_cmp x (map g ls)) (same_from_is_eq key_cmp_total key_cmp-same j (g k) e)
          ∙ image_known k ls (known k (ap (λ r. is_eq r || has_key cmp k ks) (tied_itself o k)))
      by false e rest h = rest h

  module _ (es : List (Keyed K Sums)) where
    abbrev put_together : K → Sums
    put_together k = sums_together (steps_at cmp k es)

    abbrev grouped : KeyedSums
    grouped = map (under g) (map (made_of put_together) (keys_in cmp es))

    keys_grouped : (ks : List K) → step_keys (map (under g) (map (made_of put_together) ks)) ≡ map g ks
    keys_grouped [] = refl
    keys_grouped (k ∷ ks) = ap (λ l. g k ∷ l) (keys_grouped ks)

    keys_under : (fs : List (Keyed K Sums)) → step_keys (map (under g) fs) ≡ map g (step_keys fs)
    keys_under [] = refl
    keys_under (f ∷ fs) = ap (λ l. g f.key ∷ l) (keys_under fs)

    sorted : IsStrictlySortedBy cmp (keys_in cmp es)
    sorted = ascending-sorted o (step_keys es)

    known : AllByRecursion (λ (e : Keyed K Sums). has_key cmp e.key (keys_in cmp es) ≡ true) es
    known =
        AllByRecursion-map (λ (e : Keyed K Sums). has_key cmp e.key (step_keys es) ≡ true) (λ (e : Keyed K Sums). has_key cmp e.key (keys_in cmp es) ≡ true)
        (λ (e : Keyed K Sums) h. has_key-ascending e.key (step_keys es) ∙ h) es (own_keys es)

    pub AddUpAlike-grouped : AddUpAlike grouped (map (under g) es)
    AddUpAlike-grouped = record {
      there = λ j h. ap (has_key key_cmp j) (keys_under es) ∙ Within-map (keys_in cmp es) (step_keys es) (λ k has. sym (has_key-ascending k (step_keys es)) ∙ has) j (sym (ap (has_key key_cmp j) (keys_grouped (keys_in cmp es))) ∙ h);
      back = λ j h. ap (has_key key_cmp j) (keys_grouped (keys_in cmp es)) ∙ Within-map (step_keys es) (keys_in cmp es) (λ k has. has_key-ascending k (step_keys es) ∙ has) j (sym (ap (has_key key_cmp j) (keys_under es)) ∙ h);
      sums = λ j. tally-made o same key_cmp g j es (keys_in cmp es) sorted known;
    }

-- What is kept for keys is decided by which keys there are, and by the steps of each.
use Rattle.std.specs.{BTreeSet.insert_key, Cmp.{IsTotalOrder, eq_by_cmp_equiv}, List.Contains, Ordering.{eq_by_cmp, is_eq}, Prelude.{filter, fold}, declared.cmp.Ordering.{Ordering, TheVariants.Equal}}
use Rattle.std.proofs.{Common.{◌≡◌, List, [], ◌∷◌, ◌++◌, Bool, true, false, ◌||◌, cond, map, refl, sym, ap, ◌∙◌, All}, lemmas.{List.Elements.{All-head, All-tail, All-weaker, All-contains, All-contains_itself, All-nil}, Map.Views.{All-insert_key, list_any-from_Contains}}}
use Rattle.indexmap.proofs.CallerLemmas.{Contains-list_any}
use Rattle.span_keyed_tracks.specs.Keyed.{Keyed, ascending, entries_in, entry_of, keys_in, steps_at}
use Rattle.span_keyed_tracks.proofs.{Ascending.{ascending-add_key, insert_key-swap}, Keyed.{has_key, same_from_is_eq, steps_at-none}, Lists.Filters.map-same, Uses.is_eq-turned}

-- the keys of steps, as they come
abbrev pub step_keys : {K A : Type 0} → List (Keyed K A) → List K
step_keys es = map (λ e. e.key) es

-- what holds of all keys holds of them in order
module _ {K : Type 0} (cmp : K → K → Ordering) (P : K → Type 0) where
  All-fold : (done ks : List K) → All P done → All P ks → All P (fold (insert_key cmp) done ks)
  All-fold done [] first all = first
  All-fold done (k ∷ ks) first all = All-fold (insert_key cmp done k) ks (All-insert_key cmp k P done first (All-head P k ks all)) (All-tail P k ks all)

  pub All-ascending : (ks : List K) → All P ks → All P (ascending cmp ks)
  All-ascending ks all = All-fold [] ks (All-nil P) all

module _ {K : Type 0} {cmp : K → K → Ordering} (o : IsTotalOrder cmp) (same : (a b : K) → cmp a b ≡ Equal → a ≡ b) where
  -- a key that comes first might come last
  fold-insert_key : (done ks : List K) (k : K) → fold (insert_key cmp) (insert_key cmp done k) ks ≡ insert_key cmp (fold (insert_key cmp) done ks) k
  fold-insert_key done [] k = refl
  fold-insert_key done (x ∷ xs) k = ap (λ d. fold (insert_key cmp) d xs) (insert_key-swap o same k x done) ∙ fold-insert_key (insert_key cmp done x) xs k

  -- which of two lists of keys comes first is all one
  fold-swap : (done xs ys : List K) → fold (insert_key cmp) (fold (insert_key cmp) done xs) ys ≡ fold (insert_key cmp) (fold (insert_key cmp) done ys) xs
  fold-swap done [] ys = refl
  fold-swap done (x ∷ xs) ys = fold-swap (insert_key cmp done x) xs ys ∙ ap (λ d. fold (insert_key cmp) d xs) (fold-insert_key done ys x)

  -- a key that is among them changes nothing
  insert_key-known : (ks : List K) (k : K) → has_key cmp k ks ≡ true → insert_key cmp (ascending cmp ks) k ≡ ascending cmp ks
  insert_key-known ks k known =
      sym (ascending-add_key o same (eq_by_cmp cmp) (same_from_is_eq o same) ks k) ∙ ap (λ b. ascending cmp (cond b ks (ks ++ k ∷ []))) known

  -- nor do keys that are all among them
  fold-known : (ks xs : List K) → All (λ x. has_key cmp x ks ≡ true) xs → fold (insert_key cmp) (ascending cmp ks) xs ≡ ascending cmp ks
  fold-known ks [] known = refl
  fold-known ks (x ∷ xs) known =
      ap (λ d. fold (insert_key cmp) d xs) (insert_key-known ks x (All-head (λ y. has_key cmp y ks ≡ true) x xs known)) ∙ fold-known ks xs (All-tail (λ y. has_key cmp y ks ≡ true) x xs known)

  known_from_Contains : (xs ys : List K) → ((k : K) → Contains xs k → Contains ys k) → All (λ x. has_key cmp x ys ≡ true) xs
  known_from_Contains xs ys within = All-weaker (Contains xs) (λ x. has_key cmp x ys ≡ true) (λ (x : K) has. list_any-from_Contains (eq_by_cmp_equiv o) x ys (within x has)) xs (All-contains_itself xs)

  -- lists with the same members are one in ascending order
  pub ascending-members : (xs ys : List K) → ((k : K) → Contains xs k → Contains ys k) → ((k : K) → Contains ys k → Contains xs k) → ascending cmp xs ≡ ascending cmp ys
  ascending-members xs ys there back =
      sym (fold-known xs ys (known_from_Contains ys xs back)) ∙ fold-swap [] xs ys ∙ fold-known ys xs (known_from_Contains xs ys there)

  module _ {A : Type 0} where
    -- the steps of a key, where the first of these steps is one of them, or is none
    abbrev steps_with : Bool → K → Keyed K A → List (Keyed K A) → List A
    steps_with b k e es = let later = filter (λ x. is_eq (cmp x.key k)) es in map (λ x. x.step) (cond b (e ∷ later) later)

    -- the key of a step has one
    steps_at-some : (es : List (Keyed K A)) (k : K) → has_key cmp k (step_keys es) ≡ true → steps_at cmp k es ≡ [] → ⊥
    steps_at-some [] k has none = cc
    steps_at-some (e ∷ es) k has none = by (is_eq (cmp k e.key)) refl (steps_at-some es k)
      where
        by : (b : Bool) → is_eq (cmp k e.key) ≡ b → (has_key cmp k (step_keys es) ≡ true → steps_at cmp k es ≡ [] → ⊥) → ⊥
        by true h rest = let some : steps_with true k e es ≡ [] = sym (ap (λ b. steps_with b k e es) (is_eq-turned o e.key k ∙ h)) ∙ none in cc
        by false h rest =
            rest (sym (ap (λ b. b || has_key cmp k (step_keys es)) h) ∙ has)
            (sym (ap (λ b. steps_with b k e es) (is_eq-turned o e.key k ∙ h)) ∙ none)

    -- where each key has the same steps, a key of the first has one among the second
    keys_there : (es fs : List (Keyed K A)) → ((k : K) → steps_at cmp k es ≡ steps_at cmp k fs) → (k : K) → Contains (step_keys es) k → Contains (step_keys fs) k
    keys_there es fs steps k has = by (has_key cmp k (keys_in cmp fs)) refl
      where
        by : (b : Bool) → has_key cmp k (keys_in cmp fs) ≡ b → Contains (step_keys fs) k
        by true h =
            let each = All-ascending cmp (Contains (step_keys fs)) (step_keys fs) (All-contains_itself (step_keys fs)) in
            All-contains (Contains (step_keys fs)) (keys_in cmp fs) k each (Contains-list_any (eq_by_cmp cmp) (same_from_is_eq o same) (keys_in cmp fs) k h)
        by false h =
            absurd (steps_at-some es k (list_any-from_Contains (eq_by_cmp_equiv o) k (step_keys es) has) (steps k ∙ steps_at-none o same k fs h))

    module _ {X : Type 0} (give : List A → X) where
      -- a key with what its steps among these give
      abbrev entry_among : List (Keyed K A) → K → K × X
      entry_among es = entry_of (λ k. give (steps_at cmp k es))

      -- where the same keys have a step, and each of them the same steps, the same is kept
      pub entries_in-members : (es fs : List (Keyed K A)) → ((k : K) → Contains (step_keys es) k → Contains (step_keys fs) k) → ((k : K) → Contains (step_keys fs) k → Contains (step_keys es) k) →
          ((k : K) → Contains (step_keys es) k → steps_at cmp k es ≡ steps_at cmp k fs) → entries_in cmp give es ≡ entries_in cmp give fs
      entries_in-members es fs there back steps =
          let each = All-weaker (Contains (step_keys es)) (λ k. entry_among es k ≡ entry_among fs k) (λ (k : K) has. ap (λ l. (k, give l)) (steps k has)) (step_keys es) (All-contains_itself (step_keys es)) in
          map-same (entry_among es) (entry_among fs) (keys_in cmp es) (All-ascending cmp (λ k. entry_among es k ≡ entry_among fs k) (step_keys es) each)
          ∙ ap (map (entry_among fs)) (ascending-members (step_keys es) (step_keys fs) there back)

      -- where each key has the same steps, the same is kept
      pub entries_in-steps : (es fs : List (Keyed K A)) → ((k : K) → steps_at cmp k es ≡ steps_at cmp k fs) → entries_in cmp give es ≡ entries_in cmp give fs
      entries_in-steps es fs steps = entries_in-members es fs (keys_there es fs steps) (keys_there fs es (λ k. sym (steps k))) (λ k has. steps k)

-- How what is kept for many keys changes with a step of one of them.
use Rattle.std.specs.{BTreeMap.{is_at, insert_entry}, BTreeSet.insert_key, Cmp.{IsTotalOrder, tied_itself}, List.{list_any, AllByRecursion, Sorted.IsStrictlySortedBy}, Map.{lookup, keys_of, set_value}, Ordering.{is_eq, match_ordering, ordering_reverse}, Prelude.{filter, fold, is_some, unwrap_or}, declared.cmp.Ordering.{Ordering, TheVariants.{Less, Equal, Greater}}}
use Rattle.std.proofs.{Common.{◌≡◌, ℕ, ◌+◌, ◌≤◌, length, arith, append_assoc, List, [], ◌∷◌, ◌++◌, Bool, true, false, ◌||◌, cond, Option, Some, None, refl, sym, ap, ap₂, subst, ◌∙◌, map, append-nil}, lemmas.List.{map-append, length-map, Elements.filter-append, Sums.{fold-append, length-filter, count_by-le-length}}}
use Rattle.span_keyed_tracks.specs.Keyed.{Keyed, steps_at, keys_in, entry_of, entries_in, kept_at}

-- the key is among these
abbrev pub has_key : {K : Type 0} → (K → K → Ordering) → K → List K → Bool
has_key cmp key ks = list_any (λ x. is_eq (cmp key x)) ks

pub neither : (a b : Bool) → (a || b) ≡ false → (a ≡ false) × (b ≡ false)
neither true b h = cc
neither false b h = (refl, h)

-- the keys of a list of entries are those that it was made of
pub keys_of-made : {K X : Type 0} (f : K → X) (ks : List K) → keys_of (map (entry_of f) ks) ≡ ks
keys_of-made f [] = refl
keys_of-made f (k ∷ ks) = ap (λ l. k ∷ l) (keys_of-made f ks)

-- a map has a value just at its keys
pub is_some-lookup : {K X : Type 0} (test : K → Bool) (es : List (K × X)) → is_some (lookup test es) ≡ list_any test (keys_of es)
is_some-lookup test [] = refl
is_some-lookup test (e ∷ es) = elim (test e.0) as (λ b. is_some (cond b (Some e.1) (lookup test es)) ≡ (b || list_any test (keys_of es))) [ true ↦ refl | false ↦ is_some-lookup test es ]

-- to write the value that is there changes nothing
pub set_value-same : {K X : Type 0} (test : K → Bool) (es : List (K × X)) (v : X) → lookup test es ≡ Some v → set_value test es v ≡ es
set_value-same test [] v found = refl
set_value-same test (e ∷ es) v found = by (test e.0) (set_value-same test es v) found
  where
    by : (b : Bool) → (lookup test es ≡ Some v → set_value test es v ≡ es) → cond b (Some e.1) (lookup test es) ≡ Some v → cond b ((e.0, v) ∷ es) (e ∷ set_value test es v) ≡ e ∷ es
    by true rest found = let same : e.1 ≡ v = cc in ap (λ w. (e.0, w) ∷ es) (sym same)
    by false rest found = ap (λ l. e ∷ l) (rest found)

-- what is kept at a key is what is found there
pub kept_at-found : {K X : Type 0} (cmp : K → K → Ordering) (none : X) (kept : List (K × X)) (key : K) (v : X) → lookup (is_at (cmp key)) kept ≡ Some v → kept_at cmp none kept key ≡ v
kept_at-found cmp none kept key v found = ap (λ o. unwrap_or o none) found

-- where the value that was there is written again, all stays
pub set_value-stays : {K X : Type 0} (test : K → Bool) (kept final : List (K × X)) (old new : X) → lookup test kept ≡ Some old → new ≡ old → final ≡ set_value test kept new → final ≡ kept
set_value-stays test kept final old new found stays written = written ∙ set_value-same test kept new (found ∙ ap Some (sym stays))

-- the keys of a map after an insertion
pub keys_of-insert_entry : {K X : Type 0} (cmp : K → K → Ordering) (es : List (K × X)) (k : K) (v : X) → keys_of (insert_entry cmp es k v) ≡ insert_key cmp (keys_of es) k
keys_of-insert_entry cmp [] k v = refl
keys_of-insert_entry cmp (e ∷ es) k v =
    elim (cmp k e.0) as (λ r. keys_of (match_ordering r ((k, v) ∷ e ∷ es) ((e.0, v) ∷ es) (e ∷ insert_entry cmp es k v)) ≡ match_ordering r (k ∷ e.0 ∷ keys_of es) (e.0 ∷ keys_of es) (e.0 ∷ insert_key cmp (keys_of es) k))
    [ Less ↦ refl | Equal ↦ refl | Greater ↦ ap (λ l. e.0 ∷ l) (keys_of-insert_entry cmp es k v) ]

-- a key has no more steps than there are
pub length-steps_at : {K A : Type 0} (cmp : K → K → Ordering) (key : K) (es : List (Keyed K A)) → length (steps_at cmp key es) ≤ length es
length-steps_at {K = K} {A = A} cmp key es =
    let kept = filter (λ (e : Keyed K A). is_eq (cmp e.key key)) es in
    omega (arith, length-map kept (λ (e : Keyed K A). e.step), length-filter (λ (e : Keyed K A). is_eq (cmp e.key key)) es, count_by-le-length (λ (e : Keyed K A). is_eq (cmp e.key key)) es)

-- what grows by one at most with each step
size-append : {A : Type 0} (size : List A → ℕ) → ((steps : List A) (step : A) → size (steps ++ step ∷ []) ≤ size steps + 1) → (steps later : List A) → size (steps ++ later) ≤ size steps + length later
size-append size grows steps [] = rw (append-nil steps) (omega arith)
size-append {A = A} size grows steps (step ∷ later) =
    let rest = subst (λ (l : List A). size l ≤ size (steps ++ step ∷ []) + length later) (append_assoc steps (step ∷ []) later) (size-append size grows (steps ++ step ∷ []) later) in
    omega (arith, rest, grows steps step)

-- is, for the steps of a key, no more than there are steps
pub size-steps_at : {K A : Type 0} (cmp : K → K → Ordering) (size : List A → ℕ) → size [] ≡ 0 → ((steps : List A) (step : A) → size (steps ++ step ∷ []) ≤ size steps + 1) → (key : K) (es : List (Keyed K A)) → size (steps_at cmp key es) ≤ length es
size-steps_at cmp size empty grows key es = omega (arith, empty, size-append size grows [] (steps_at cmp key es), length-steps_at cmp key es)

module _ {K : Type 0} {cmp : K → K → Ordering} (o : IsTotalOrder cmp) where
  -- a key below the first of these is none of them
  pub has_key-below : (k x : K) (xs : List K) → cmp k x ≡ Less → AllByRecursion (λ y. cmp x y ≡ Less) xs → has_key cmp k xs ≡ false
  has_key-below k x [] h below = refl
  has_key-below k x (y ∷ ys) h below = ap₂ (λ r b. is_eq r || b) (o.trans k x y h below.0) (has_key-below k x ys h below.1)

  insert_key-by : (r : Ordering) (k x : K) (xs rest : List K) → cmp k x ≡ r → (r ≡ Less → ⊥) → (r ≡ Greater → rest ≡ xs) → match_ordering r (k ∷ x ∷ xs) (x ∷ xs) (x ∷ rest) ≡ x ∷ xs
  insert_key-by Less k x xs rest e low high = absurd (low refl)
  insert_key-by Equal k x xs rest e low high = refl
  insert_key-by Greater k x xs rest e low high = ap (λ l. x ∷ l) (high refl)

  -- a key that is there already changes nothing
  pub insert_key-present : (k : K) (ks : List K) → IsStrictlySortedBy cmp ks → has_key cmp k ks ≡ true → insert_key cmp ks k ≡ ks
  unfolding IsStrictlySortedBy
  insert_key-present k [] sorted has = cc
  insert_key-present k (x ∷ xs) sorted has =
      insert_key-by (cmp k x) k x xs (insert_key cmp xs k) refl
      (λ (e : cmp k x ≡ Less). let none : (is_eq (cmp k x) || has_key cmp k xs) ≡ false = ap₂ (λ r b. is_eq r || b) e (has_key-below k x xs e sorted.0) in
      let clash : true ≡ false = sym has ∙ none in cc)
      (λ (e : cmp k x ≡ Greater). insert_key-present k xs sorted.1 (sym (ap (λ r. is_eq r || has_key cmp k xs) e) ∙ has))

  -- a key that is no later key than the first of rising keys is none of the others
  none_later : (k x : K) (xs : List K) (r : Ordering) → cmp k x ≡ r → (r ≡ Greater → ⊥) → AllByRecursion (λ y. cmp x y ≡ Less) xs → AllByRecursion (λ y. is_eq (cmp k y) ≡ false) xs
  none_later k x [] r e low below = tt
  none_later k x (y ∷ ys) Less e low below = (ap is_eq (o.trans k x y e below.0), none_later k x ys Less e low below.1)
  none_later k x (y ∷ ys) Equal e low below = (ap is_eq (o.congr k x y e ∙ below.0), none_later k x ys Equal e low below.1)
  none_later k x (y ∷ ys) Greater e low below = absurd (low refl)

-- where keys that the order doesn't distinguish are the same
module _ {K : Type 0} {cmp : K → K → Ordering} (o : IsTotalOrder cmp) (same : (a b : K) → cmp a b ≡ Equal → a ≡ b) where
  pub same_from_is_eq : (a b : K) → is_eq (cmp a b) ≡ true → a ≡ b
  same_from_is_eq a b h = by (cmp a b) refl h
    where
      by : (r : Ordering) → cmp a b ≡ r → is_eq r ≡ true → a ≡ b
      by Less e h = cc
      by Equal e h = same a b e
      by Greater e h = cc

  has_key-insert_key : (key x : K) (ks : List K) → has_key cmp key (insert_key cmp ks x) ≡ false → (is_eq (cmp key x) ≡ false) × (has_key cmp key ks ≡ false)
  has_key-insert_key key x [] none = ((neither (is_eq (cmp key x)) false none).0, refl)
  has_key-insert_key key x (y ∷ ys) none = by (cmp x y) refl (has_key-insert_key key x ys) none
    where
      by : (r : Ordering) → cmp x y ≡ r → (has_key cmp key (insert_key cmp ys x) ≡ false → (is_eq (cmp key x) ≡ false) × (has_key cmp key ys ≡ false)) → has_key cmp key (match_ordering r (x ∷ y ∷ ys) (y ∷ ys) (y ∷ insert_key cmp ys x)) ≡ false → (is_eq (cmp key x) ≡ false) × (has_key cmp key (y ∷ ys) ≡ false)
      by Less e later none = neither (is_eq (cmp key x)) (has_key cmp key (y ∷ ys)) none
      by Equal e later none = (subst (λ z. is_eq (cmp key z) ≡ false) (sym (same x y e)) (neither (is_eq (cmp key y)) (has_key cmp key ys) none).0, none)
      by Greater e later none =
          let parts = neither (is_eq (cmp key y)) (has_key cmp key (insert_key cmp ys x)) none in
          let rest = later parts.1 in
          (rest.0, ap₂ (λ a b. a || b) parts.0 rest.1)

  module _ {A : Type 0} where
    steps_at-none_from : (key : K) (es : List (Keyed K A)) (ks : List K) → has_key cmp key (fold (insert_key cmp) ks (map (λ e. e.key) es)) ≡ false → (steps_at cmp key es ≡ []) × (has_key cmp key ks ≡ false)
    steps_at-none_from key [] ks none = (refl, none)
    steps_at-none_from key (e ∷ es) ks none =
        let rest = steps_at-none_from key es (insert_key cmp ks e.key) none in
        let parts = has_key-insert_key key e.key ks rest.1 in
        let turned : is_eq (cmp e.key key) ≡ false = ap is_eq (o.antisymm e.key key) ∙ by_reverse (cmp key e.key) parts.0 in
        (ap (λ b. map (λ (x : Keyed K A). x.step) (cond b (e ∷ filter (λ x. is_eq (cmp x.key key)) es) (filter (λ x. is_eq (cmp x.key key)) es))) turned ∙ rest.0, parts.1)
      where
        by_reverse : (r : Ordering) → is_eq r ≡ false → is_eq (ordering_reverse r) ≡ false
        by_reverse Less h = refl
        by_reverse Equal h = cc
        by_reverse Greater h = refl

    -- a key that is not among those with a step has none
    pub steps_at-none : (key : K) (es : List (Keyed K A)) → has_key cmp key (keys_in cmp es) ≡ false → steps_at cmp key es ≡ []
    steps_at-none key es none = (steps_at-none_from key es [] none).0

    steps_at-append : (key : K) (es : List (Keyed K A)) (e : Keyed K A) → steps_at cmp key (es ++ e ∷ []) ≡ steps_at cmp key es ++ cond (is_eq (cmp e.key key)) (e.step ∷ []) []
    steps_at-append key es e =
        ap (map (λ (x : Keyed K A). x.step)) (filter-append (λ (x : Keyed K A). is_eq (cmp x.key key)) es (e ∷ []))
        ∙ map-append (λ (x : Keyed K A). x.step) (filter (λ x. is_eq (cmp x.key key)) es) (filter (λ x. is_eq (cmp x.key key)) (e ∷ []))
        ∙ ap (λ l. steps_at cmp key es ++ l) (by (is_eq (cmp e.key key)))
      where
        by : (b : Bool) → map (λ (x : Keyed K A). x.step) (cond b (e ∷ []) []) ≡ cond b (e.step ∷ []) []
        by true = refl
        by false = refl

    -- a step of the key comes last among its steps
    pub steps_at-own : (es : List (Keyed K A)) (e : Keyed K A) → steps_at cmp e.key (es ++ e ∷ []) ≡ steps_at cmp e.key es ++ e.step ∷ []
    steps_at-own es e = steps_at-append e.key es e ∙ ap (λ r. steps_at cmp e.key es ++ cond (is_eq r) (e.step ∷ []) []) (tied_itself o e.key)

    -- a step of another key is none of these
    pub steps_at-other : (key : K) (es : List (Keyed K A)) (e : Keyed K A) → is_eq (cmp e.key key) ≡ false → steps_at cmp key (es ++ e ∷ []) ≡ steps_at cmp key es
    steps_at-other key es e h = steps_at-append key es e ∙ ap (λ b. steps_at cmp key es ++ cond b (e.step ∷ []) []) h ∙ append-nil (steps_at cmp key es)

    -- the keys with one more step
    pub keys_in-append : (es : List (Keyed K A)) (e : Keyed K A) → keys_in cmp (es ++ e ∷ []) ≡ insert_key cmp (keys_in cmp es) e.key
    keys_in-append es e =
        ap (fold (insert_key cmp) []) (map-append (λ (x : Keyed K A). x.key) es (e ∷ []))
        ∙ fold-append (insert_key cmp) [] (map (λ (x : Keyed K A). x.key) es) (e.key ∷ [])

  -- entries of two functions that agree but at one key
  module _ {X : Type 0} (f g : K → X) (key : K) (agree : (k : K) → is_eq (cmp key k) ≡ false → f k ≡ g k) where
    pub made-agree : (ks : List K) → AllByRecursion (λ k. is_eq (cmp key k) ≡ false) ks → map (entry_of f) ks ≡ map (entry_of g) ks
    made-agree [] none = refl
    made-agree (k ∷ ks) none = ap₂ (λ x l. (k, x) ∷ l) (agree k none.0) (made-agree ks none.1)

    -- a value written at the key
    pub made-set_value : (ks : List K) → IsStrictlySortedBy cmp ks → set_value (is_at (cmp key)) (map (entry_of f) ks) (g key) ≡ map (entry_of g) ks
    unfolding IsStrictlySortedBy
    made-set_value [] sorted = refl
    made-set_value (k ∷ ks) sorted = by (cmp key k) refl (made-set_value ks sorted.1)
      where
        by : (r : Ordering) → cmp key k ≡ r → set_value (is_at (cmp key)) (map (entry_of f) ks) (g key) ≡ map (entry_of g) ks → cond (is_eq r) ((k, g key) ∷ map (entry_of f) ks) ((k, f k) ∷ set_value (is_at (cmp key)) (map (entry_of f) ks) (g key)) ≡ map (entry_of g) (k ∷ ks)
        by Less e rest = ap₂ (λ x l. (k, x) ∷ l) (agree k (ap is_eq e)) rest
        by Equal e rest = ap₂ (λ x l. (k, x) ∷ l) (ap g (same key k e)) (made-agree ks (none_later o key k ks Equal e (λ h. cc) sorted.0))
        by Greater e rest = ap₂ (λ x l. (k, x) ∷ l) (agree k (ap is_eq e)) rest

    -- an entry inserted at the key
    pub made-insert_entry : (ks : List K) → IsStrictlySortedBy cmp ks → insert_entry cmp (map (entry_of f) ks) key (g key) ≡ map (entry_of g) (insert_key cmp ks key)
    unfolding IsStrictlySortedBy
    made-insert_entry [] sorted = refl
    made-insert_entry (k ∷ ks) sorted = by (cmp key k) refl (made-insert_entry ks sorted.1)
      where
        by : (r : Ordering) → cmp key k ≡ r → insert_entry cmp (map (entry_of f) ks) key (g key) ≡ map (entry_of g) (insert_key cmp ks key) → match_ordering r ((key, g key) ∷ (k, f k) ∷ map (entry_of f) ks) ((k, g key) ∷ map (entry_of f) ks) ((k, f k) ∷ insert_entry cmp (map (entry_of f) ks) key (g key)) ≡ map (entry_of g) (match_ordering r (key ∷ k ∷ ks) (k ∷ ks) (k ∷ insert_key cmp ks key))
        by Less e rest = ap₂ (λ x l. (key, g key) ∷ (k, x) ∷ l) (agree k (ap is_eq e)) (made-agree ks (none_later o key k ks Less e (λ h. cc) sorted.0))
        by Equal e rest = ap₂ (λ x l. (k, x) ∷ l) (ap g (same key k e)) (made-agree ks (none_later o key k ks Equal e (λ h. cc) sorted.0))
        by Greater e rest = ap₂ (λ x l. (k, x) ∷ l) (agree k (ap is_eq e)) rest

  -- a value found is the one that its key was made with
  pub lookup-made : {X : Type 0} (f : K → X) (key : K) (ks : List K) (v : X) → lookup (is_at (cmp key)) (map (entry_of f) ks) ≡ Some v → v ≡ f key
  lookup-made {X = X} f key [] v found = absurd cc
  lookup-made {X = X} f key (k ∷ ks) v found = by (is_eq (cmp key k)) refl (lookup-made f key ks v) found
    where
      by : (b : Bool) → is_eq (cmp key k) ≡ b → (lookup (is_at (cmp key)) (map (entry_of f) ks) ≡ Some v → v ≡ f key) → cond b (Some (f k)) (lookup (is_at (cmp key)) (map (entry_of f) ks)) ≡ Some v → v ≡ f key
      by true h rest found = let first : f k ≡ v = cc in sym first ∙ ap f (sym (same_from_is_eq key k h))
      by false h rest found = rest found

  module _ {A X : Type 0} (give : List A → X) where
    -- a value that is kept is the one that the steps of its key give
    pub lookup-entries_in : (es : List (Keyed K A)) (key : K) (v : X) → lookup (is_at (cmp key)) (entries_in cmp give es) ≡ Some v → v ≡ give (steps_at cmp key es)
    lookup-entries_in es key v found = lookup-made (λ k. give (steps_at cmp k es)) key (keys_in cmp es) v found

    -- a key for which nothing is kept has no step
    pub steps_at-absent : (es : List (Keyed K A)) (key : K) → lookup (is_at (cmp key)) (entries_in cmp give es) ≡ None → steps_at cmp key es ≡ []
    steps_at-absent es key none =
        steps_at-none key es (ap (has_key cmp key) (sym (keys_of-made (λ k. give (steps_at cmp k es)) (keys_in cmp es))) ∙ sym (is_some-lookup (is_at (cmp key)) (entries_in cmp give es)) ∙ ap is_some none)

    -- what is kept at a key is what its steps give
    pub kept_at-entries_in : (es : List (Keyed K A)) (key : K) → kept_at cmp (give []) (entries_in cmp give es) key ≡ give (steps_at cmp key es)
    kept_at-entries_in es key = by (lookup (is_at (cmp key)) (entries_in cmp give es)) refl
      where
        by : (found : Option X) → lookup (is_at (cmp key)) (entries_in cmp give es) ≡ found → unwrap_or found (give []) ≡ give (steps_at cmp key es)
        by None e = ap give (sym (steps_at-absent es key e))
        by (Some v) e = lookup-entries_in es key v e

    agree_but_at : (es : List (Keyed K A)) (e : Keyed K A) (k : K) → is_eq (cmp e.key k) ≡ false → give (steps_at cmp k es) ≡ give (steps_at cmp k (es ++ e ∷ []))
    agree_but_at es e k h = ap give (sym (steps_at-other k es e h))

    -- what the steps of a key give with one more was inserted at the key
    pub entries_in-insert_entry : (es : List (Keyed K A)) (e : Keyed K A) (kept : List (K × X)) (new : X) → kept ≡ entries_in cmp give es → IsStrictlySortedBy cmp (keys_of kept) →
        new ≡ give (steps_at cmp e.key es ++ e.step ∷ []) → insert_entry cmp kept e.key new ≡ entries_in cmp give (es ++ e ∷ [])
    entries_in-insert_entry es e kept new stands sorted is =
        let keys : keys_of kept ≡ keys_in cmp es = ap keys_of stands ∙ keys_of-made (λ k. give (steps_at cmp k es)) (keys_in cmp es) in
        let rising : IsStrictlySortedBy cmp (keys_in cmp es) = subst (IsStrictlySortedBy cmp) keys sorted in
        ap₂ (λ l x. insert_entry cmp l e.key x) stands (is ∙ ap give (sym (steps_at-own es e)))
        ∙ made-insert_entry (λ k. give (steps_at cmp k es)) (λ k. give (steps_at cmp k (es ++ e ∷ []))) e.key (agree_but_at es e) (keys_in cmp es) rising
        ∙ ap (map (entry_of (λ k. give (steps_at cmp k (es ++ e ∷ []))))) (sym (keys_in-append es e))

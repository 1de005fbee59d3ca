-- The distinct elements of a list in ascending order, and how often each stands there.
use Rattle.std.specs.{BTreeSet.insert_key, Cmp.IsTotalOrder, List.{AllByRecursion, count_by, list_any, sum_by, Sorted.IsStrictlySortedBy}, Ordering.{eq_by_cmp, is_eq, match_ordering, ordering_reverse}, Prelude.fold, declared.cmp.Ordering.{Ordering, TheVariants.{Less, Equal, Greater}}}
use Rattle.std.proofs.{Common.{◌≡◌, ℕ, ◌+◌, Bool, true, false, ◌||◌, cond, List, [], ◌∷◌, refl, sym, ap, ap₂, ◌∙◌, arith, true≢false}, lemmas.{Cmp.{tied_back, tied_itself}, List.Sums.sum_by-cons}}
use Rattle.span_self_time.proofs.{Counts.sum_by-nothing, Tops.{one_if, sum_by-same}}
use Rattle.span_report.specs.{ascending}

module _ {K : Type 0} {R : K → K → Ordering} (o : IsTotalOrder R) (tied : (a b : K) → R a b ≡ Equal → a ≡ b) where
  or_twice : (a b : Bool) → (a || (a || b)) ≡ (a || b)
  or_twice true b = refl
  or_twice false b = refl

  or_swap : (a b c : Bool) → (a || (b || c)) ≡ (b || (a || c))
  or_swap true true c = refl
  or_swap true false c = refl
  or_swap false true c = refl
  or_swap false false c = refl

  -- one more key
  any-insert_key : (q : K → Bool) (x : K) (ks : List K) → list_any q (insert_key R ks x) ≡ (q x || list_any q ks)
  any-insert_key q x [] = refl
  any-insert_key q x (y ∷ ys) = by (R x y) refl (any-insert_key q x ys)
    where
      by : (r : Ordering) → R x y ≡ r → list_any q (insert_key R ys x) ≡ (q x || list_any q ys) →
          list_any q (match_ordering r (x ∷ y ∷ ys) (y ∷ ys) (y ∷ insert_key R ys x)) ≡ (q x || (q y || list_any q ys))
      by Less e rest = refl
      by Equal e rest = sym (ap (λ z. q z || (q y || list_any q ys)) (tied x y e) ∙ or_twice (q y) (list_any q ys))
      by Greater e rest = ap (λ b. q y || b) rest ∙ or_swap (q y) (q x) (list_any q ys)

  any-fold : (q : K → Bool) (done xs : List K) → list_any q (fold (insert_key R) done xs) ≡ (list_any q xs || list_any q done)
  any-fold q done [] = refl
  any-fold q done (x ∷ xs) =
      any-fold q (insert_key R done x) xs ∙ ap (λ b. list_any q xs || b) (any-insert_key q x done) ∙ turned (list_any q xs) (q x) (list_any q done)
    where
      turned : (a b c : Bool) → (a || (b || c)) ≡ ((b || a) || c)
      turned true true c = refl
      turned true false c = refl
      turned false true c = refl
      turned false false c = refl

  -- the same keys, in order
  pub list_any-ascending : (q : K → Bool) (xs : List K) → list_any q (ascending R xs) ≡ list_any q xs
  list_any-ascending q xs = any-fold q [] xs ∙ none (list_any q xs)
    where
      none : (b : Bool) → (b || false) ≡ b
      none true = refl
      none false = refl

  -- a key below all of these is none of them
  pub none-below : (k : K) (ks : List K) → AllByRecursion (λ y. R k y ≡ Less) ks → list_any (λ y. eq_by_cmp R k y) ks ≡ false
  none-below k [] below = refl
  none-below k (y ∷ ys) below = ap₂ (λ r b. is_eq r || b) below.0 (none-below k ys below.1)

  -- as often as a key stands among these
  none-times : (k : K) (ks : List K) → list_any (λ y. eq_by_cmp R y k) ks ≡ false → sum_by (λ y. one_if (eq_by_cmp R y k)) ks ≡ 0
  none-times k [] none = refl
  none-times k (y ∷ ys) none = by (eq_by_cmp R y k) refl none (λ h. none-times k ys h)
    where
      by : (b : Bool) → eq_by_cmp R y k ≡ b → (b || list_any (λ z. eq_by_cmp R z k) ys) ≡ false → (list_any (λ z. eq_by_cmp R z k) ys ≡ false → sum_by (λ z. one_if (eq_by_cmp R z k)) ys ≡ 0) → sum_by (λ z. one_if (eq_by_cmp R z k)) (y ∷ ys) ≡ 0
      by true e h rest = absurd (true≢false h)
      by false e h rest = sum_by-cons (λ z. one_if (eq_by_cmp R z k)) y ys ∙ ap₂ (λ a b. one_if a + b) e (rest h)

  turned_eq : (a b : K) → eq_by_cmp R a b ≡ eq_by_cmp R b a
  turned_eq a b = ap is_eq (o.antisymm a b) ∙ by (R b a)
    where
      by : (r : Ordering) → is_eq (ordering_reverse r) ≡ is_eq r
      by Less = refl
      by Equal = refl
      by Greater = refl

  turned_any : (k : K) (ks : List K) → list_any (λ y. eq_by_cmp R y k) ks ≡ list_any (λ y. eq_by_cmp R k y) ks
  turned_any k [] = refl
  turned_any k (y ∷ ys) = ap₂ (λ a b. a || b) (turned_eq y k) (turned_any k ys)

  one-time : (k : K) (ks : List K) → IsStrictlySortedBy R ks → list_any (λ y. eq_by_cmp R k y) ks ≡ true → sum_by (λ y. one_if (eq_by_cmp R y k)) ks ≡ 1
  unfolding IsStrictlySortedBy
  one-time k [] sorted has = absurd (true≢false (sym has))
  one-time k (y ∷ ys) sorted has = by (R k y) refl has (λ h. one-time k ys sorted.1 h)
    where
      apart : eq_by_cmp R y k ≡ false → sum_by (λ z. one_if (eq_by_cmp R z k)) ys ≡ 1 → sum_by (λ z. one_if (eq_by_cmp R z k)) (y ∷ ys) ≡ 1
      apart e rest = sum_by-cons (λ z. one_if (eq_by_cmp R z k)) y ys ∙ ap₂ (λ a b. one_if a + b) e rest

      by : (r : Ordering) → R k y ≡ r → (is_eq r || list_any (λ z. eq_by_cmp R k z) ys) ≡ true → (list_any (λ z. eq_by_cmp R k z) ys ≡ true → sum_by (λ z. one_if (eq_by_cmp R z k)) ys ≡ 1) → sum_by (λ z. one_if (eq_by_cmp R z k)) (y ∷ ys) ≡ 1
      by Equal e h rest =
          let here : eq_by_cmp R y k ≡ true = ap is_eq (tied_back o k y e) in
          let below : list_any (λ z. eq_by_cmp R k z) ys ≡ false = ap (λ x. list_any (λ z. eq_by_cmp R x z) ys) (tied k y e) ∙ none-below y ys sorted.0 in
          sum_by-cons (λ z. one_if (eq_by_cmp R z k)) y ys ∙ ap₂ (λ a b. one_if a + b) here (none-times k ys (turned_any k ys ∙ below))
      by Less e h rest = apart (turned_eq y k ∙ ap is_eq e) (rest h)
      by Greater e h rest = apart (turned_eq y k ∙ ap is_eq e) (rest h)

  -- two lists in order that have the same keys are the same
  pub sorted-same : (xs ys : List K) → IsStrictlySortedBy R xs → IsStrictlySortedBy R ys → ((k : K) → list_any (λ z. eq_by_cmp R k z) xs ≡ list_any (λ z. eq_by_cmp R k z) ys) → xs ≡ ys
  unfolding IsStrictlySortedBy
  sorted-same [] [] sx sy each = refl
  sorted-same [] (y ∷ ys) sx sy each = absurd (true≢false (sym (ap (λ r. is_eq r || list_any (λ z. eq_by_cmp R y z) ys) (tied_itself o y)) ∙ sym (each y)))
  sorted-same (x ∷ xs) [] sx sy each = absurd (true≢false (sym (ap (λ r. is_eq r || list_any (λ z. eq_by_cmp R x z) xs) (tied_itself o x)) ∙ each x))
  sorted-same (x ∷ xs) (y ∷ ys) sx sy each = by (R x y) refl (λ each. sorted-same xs ys sx.1 sy.1 each)
    where
      own : (a : K) (rest : List K) → list_any (λ z. eq_by_cmp R a z) (a ∷ rest) ≡ true
      own a rest = ap (λ r. is_eq r || list_any (λ z. eq_by_cmp R a z) rest) (tied_itself o a)

      through : (a b : K) (bs : List K) → R a b ≡ Less → AllByRecursion (λ z. R b z ≡ Less) bs → list_any (λ z. eq_by_cmp R a z) (b ∷ bs) ≡ false
      through a b bs below rest = none-below a (b ∷ bs) (below, each_below bs rest)
        where
          each_below : (cs : List K) → AllByRecursion (λ z. R b z ≡ Less) cs → AllByRecursion (λ z. R a z ≡ Less) cs
          each_below [] h = tt
          each_below (c ∷ cs) h = (o.trans a b c below h.0, each_below cs h.1)

      rest : x ≡ y → (k : K) → list_any (λ z. eq_by_cmp R k z) xs ≡ list_any (λ z. eq_by_cmp R k z) ys
      rest first k = by_head (R k x) refl
        where
          by_head : (r : Ordering) → R k x ≡ r → list_any (λ z. eq_by_cmp R k z) xs ≡ list_any (λ z. eq_by_cmp R k z) ys
          by_head Equal e = ap (λ a. list_any (λ z. eq_by_cmp R a z) xs) (tied k x e) ∙ none-below x xs sx.0 ∙ sym (ap (λ a. list_any (λ z. eq_by_cmp R a z) ys) (tied k x e ∙ first) ∙ none-below y ys sy.0)
          by_head Less e = sym (ap (λ r. is_eq r || list_any (λ z. eq_by_cmp R k z) xs) e) ∙ each k ∙ ap (λ r. is_eq r || list_any (λ z. eq_by_cmp R k z) ys) (ap (R k) (sym first) ∙ e)
          by_head Greater e = sym (ap (λ r. is_eq r || list_any (λ z. eq_by_cmp R k z) xs) e) ∙ each k ∙ ap (λ r. is_eq r || list_any (λ z. eq_by_cmp R k z) ys) (ap (R k) (sym first) ∙ e)

      by : (r : Ordering) → R x y ≡ r → (((k : K) → list_any (λ z. eq_by_cmp R k z) xs ≡ list_any (λ z. eq_by_cmp R k z) ys) → xs ≡ ys) → (x ∷ xs) ≡ (y ∷ ys)
      by Less e later = absurd (true≢false (sym (own x xs) ∙ each x ∙ through x y ys e sy.0))
      by Greater e later = absurd (true≢false (sym (own y ys) ∙ sym (each y) ∙ through y x xs (o.antisymm y x ∙ ap ordering_reverse e) sx.0))
      by Equal e later = let first = tied x y e in ap₂ (λ a l. a ∷ l) first (later (rest first))

  module _ (p : K → Bool) where
    -- what one element adds to the sums over keys
    weighed : (x : K) (ks : List K) → sum_by (λ k. one_if (eq_by_cmp R k x)) ks ≡ 1 → sum_by (λ k. cond (p k) (one_if (eq_by_cmp R k x)) 0) ks ≡ one_if (p x)
    weighed x ks one = sum_by-same (λ k. cond (p k) (one_if (eq_by_cmp R k x)) 0) (λ k. cond (p x) (one_if (eq_by_cmp R k x)) 0) at ks ∙ by (p x)
      where
        at : (k : K) → cond (p k) (one_if (eq_by_cmp R k x)) 0 ≡ cond (p x) (one_if (eq_by_cmp R k x)) 0
        at k = by_tie (R k x) refl
          where
            either : (a b : Bool) → ◌≡◌ {A = ℕ} (cond a 0 0) (cond b 0 0)
            either true true = refl
            either true false = refl
            either false true = refl
            either false false = refl

            by_tie : (r : Ordering) → R k x ≡ r → cond (p k) (one_if (is_eq r)) 0 ≡ cond (p x) (one_if (is_eq r)) 0
            by_tie Equal e = ap (λ a. cond (p a) 1 0) (tied k x e)
            by_tie Less e = either (p k) (p x)
            by_tie Greater e = either (p k) (p x)

        by : (b : Bool) → sum_by (λ k. cond b (one_if (eq_by_cmp R k x)) 0) ks ≡ one_if b
        by true = one
        by false = sum_by-nothing ks

    sum_by-split : (f g h : K → ℕ) → ((k : K) → h k ≡ f k + g k) → (ks : List K) → sum_by h ks ≡ sum_by f ks + sum_by g ks
    sum_by-split f g h each [] = refl
    sum_by-split f g h each (k ∷ ks) =
        omega (arith, sum_by-cons h k ks, sum_by-cons f k ks, sum_by-cons g k ks, each k, sum_by-split f g h each ks)

    -- over keys among which each element has one place, the counts add up
    sum_by-counts : (ks xs : List K) → AllByRecursion (λ x. sum_by (λ k. one_if (eq_by_cmp R k x)) ks ≡ 1) xs → sum_by (λ k. cond (p k) (count_by (λ x. eq_by_cmp R k x) xs) 0) ks ≡ count_by p xs
    sum_by-counts ks [] one = sum_by-same (λ k. cond (p k) 0 0) (λ k. 0) (λ k. zeros (p k)) ks ∙ sum_by-nothing ks
      where
        zeros : (b : Bool) → ◌≡◌ {A = ℕ} (cond b 0 0) 0
        zeros true = refl
        zeros false = refl
    sum_by-counts ks (x ∷ xs) one =
        sum_by-split (λ k. cond (p k) (one_if (eq_by_cmp R k x)) 0) (λ k. cond (p k) (count_by (λ y. eq_by_cmp R k y) xs) 0) (λ k. cond (p k) (count_by (λ y. eq_by_cmp R k y) (x ∷ xs)) 0)
        (λ k. parts (p k) (one_if (eq_by_cmp R k x)) (count_by (λ y. eq_by_cmp R k y) xs) (count_by (λ y. eq_by_cmp R k y) (x ∷ xs)) (sum_by-cons (λ y. cond (eq_by_cmp R k y) 1 0) x xs)) ks
        ∙ ap₂ (λ a b. a + b) (weighed x ks one.0) (sum_by-counts ks xs one.1)
        ∙ sym (sum_by-cons (λ y. cond (p y) 1 0) x xs)
      where
        parts : (b : Bool) (m n l : ℕ) → l ≡ m + n → cond b l 0 ≡ cond b m 0 + cond b n 0
        parts true m n l e = e
        parts false m n l e = refl

    pub sum_by-ascending : (xs : List K) → IsStrictlySortedBy R (ascending R xs) → sum_by (λ k. cond (p k) (count_by (λ x. eq_by_cmp R k x) xs) 0) (ascending R xs) ≡ count_by p xs
    sum_by-ascending xs sorted = sum_by-counts (ascending R xs) xs (each xs (λ x among. one-time x (ascending R xs) sorted (list_any-ascending (λ y. eq_by_cmp R x y) xs ∙ among)))
      where
        each : (ys : List K) → ((x : K) → list_any (λ y. eq_by_cmp R x y) ys ≡ true → sum_by (λ k. one_if (eq_by_cmp R k x)) (ascending R xs) ≡ 1) → AllByRecursion (λ x. sum_by (λ k. one_if (eq_by_cmp R k x)) (ascending R xs) ≡ 1) ys
        each [] of = tt
        each (y ∷ ys) of = (of y (ap (λ r. is_eq r || list_any (λ z. eq_by_cmp R y z) ys) (tied_itself o y)), each ys (λ x among. of x (later (eq_by_cmp R x y) (list_any (λ z. eq_by_cmp R x z) ys) among)))
          where
            later : (a b : Bool) → b ≡ true → (a || b) ≡ true
            later true b h = refl
            later false b h = h

-- The first rows in an order are those that a selection puts in front, in order.
use Rattle.std.specs.{Cmp.{IsStrictWeakOrder, IsTotalOrder}, Fn.Called, List.{IsDistinct, Sorted.{IsPermutation, IsSorted, IsSplitAround, IsSplitAroundByClosure, IsStrictlySortedBy}}, Ordering.{eq_by_cmp, is_lt}, declared.cmp.Ordering.{Ordering}}
use Rattle.std.proofs.{Common.{Bor, ◌≡◌, zero, suc, ◌+◌, Bool, false, List, [], ◌∷◌, ◌++◌, All, get_or, length, take, sym, ap, ◌∙◌, arith}, lemmas.{Fn.always_returns_same, List.{take_at, Elements.{All-head, All-tail, All-weaker}, MinMax.ranks_by, Sorted.{All-permutation, IsPermutation-append_left, IsPermutation-append_right, IsPermutation-trans, length_permutation}}, Map.Keys.IsDistinct-IsPermutation}}
use Rattle.span_keyed_tracks.specs.Keyed.{ascending}
use Rattle.span_keyed_tracks.proofs.{Sorted.ascending-sorted, Sorting.{ascending-permutation, sorted-ascending}, Uses.is_eq-turned}
use denote.Param.Members.{Mut}

-- the later ones of distinct rows are distinct
IsDistinct-behind : {A : Type 0} (e : A → A → Bool) (xs ys : List A) → IsDistinct e (xs ++ ys) → IsDistinct e ys
unfolding IsDistinct
IsDistinct-behind e [] ys distinct = distinct
IsDistinct-behind e (x ∷ xs) ys distinct = IsDistinct-behind e xs ys distinct.1

module _ {A : Type 0} {R : A → A → Ordering} (o : IsTotalOrder R) where
  order : IsStrictWeakOrder (λ (a b : A). is_lt (R a b))
  order = ranks_by o (λ a. a)

  -- from the clause `partitioned` of a selection whose calls compare by an order
  pub IsSplitAround-from_select_by : {F : Type 0} {g : Mut F (Bor A × (Bor A × Unit {0})) Ordering} {f : F} (front : List A) (x : A) (back : List A) → IsSplitAroundByClosure g f front x back →
      ((a : Bor A × (Bor A × Unit {0})) (r : Ordering) (f' : F) → Called g f a r f' → (r ≡ R a.0.now a.1.0.now) × (f' ≡ f)) → IsSplitAround R front x back
  IsSplitAround-from_select_by {g = g} {f = f} front x back clause answers =
      clause (λ a b. is_lt (R a b)) order (always_returns_same g (λ a r. is_lt r ≡ is_lt (R a.0.now a.1.0.now)) f (λ a r f' call. (ap is_lt (answers a r f' call).0, (answers a r f' call).1)))

  -- none of the later rows comes before the earlier one
  abbrev NoneBefore : List A → A → Type 0
  NoneBefore later row = All (λ other. is_lt (R other row) ≡ false) later

  -- sorted rows behind sorted ones before which none of them comes
  IsSorted-append : (xs ys : List A) → IsSorted R xs → IsSorted R ys → All (NoneBefore ys) xs → IsSorted R (xs ++ ys)
  IsSorted-append [] ys first second none k d low within = second k d low within
  IsSorted-append (x ∷ []) [] first second none k d low within = first k d low within
  IsSorted-append (x ∷ []) (y ∷ ys) first second none zero d low within = All-head (λ other. is_lt (R other x) ≡ false) y ys (All-head (NoneBefore (y ∷ ys)) x [] none)
  IsSorted-append (x ∷ []) (y ∷ ys) first second none (suc k) d low within = let next : suc k + 1 ≡ suc (k + 1) = omega arith in rw next (second k d (omega arith) (omega (arith, within)))
  IsSorted-append (x ∷ z ∷ xs) ys first second none zero d low within = first zero d (omega arith) (omega arith)
  IsSorted-append (x ∷ z ∷ xs) ys first second none (suc k) d low within =
      let next : suc k + 1 ≡ suc (k + 1) = omega arith in
      let later : IsSorted R (z ∷ xs) = λ n e below inside. let more : suc n + 1 ≡ suc (n + 1) = omega arith in rw more at (first (suc n) e (omega arith) (omega (arith, inside))) in
      rw next (IsSorted-append (z ∷ xs) ys later second (All-tail (NoneBefore ys) x (z ∷ xs) none) k d (omega arith) (omega (arith, within)))

  -- rows that rise are sorted
  pub IsSorted-strictly : (xs : List A) → IsStrictlySortedBy R xs → IsSorted R xs
  unfolding IsStrictlySortedBy
  IsSorted-strictly [] rise k d low within = absurd (omega (arith, within))
  IsSorted-strictly (x ∷ []) rise k d low within = absurd (omega (arith, within))
  IsSorted-strictly (x ∷ y ∷ xs) rise zero d low within = order.one_way x y (ap is_lt rise.0.0)
  IsSorted-strictly (x ∷ y ∷ xs) rise (suc k) d low within = let next : suc k + 1 ≡ suc (k + 1) = omega arith in rw next (IsSorted-strictly (y ∷ xs) rise.1 k d (omega arith) (omega (arith, within)))

  -- those in front, sorted, are the first of all in order
  pub take-ascending : (rows front : List A) (x : A) (back sorted : List A) → IsDistinct (eq_by_cmp R) rows → IsPermutation rows (front ++ x ∷ back) → IsSplitAround R front x back →
      IsPermutation front sorted → IsSorted R sorted → sorted ≡ take (length front) (ascending R rows)
  take-ascending rows front x back sorted distinct moved split placed rise =
      let rest = x ∷ back in
      let others = ascending R rest in
      let apart = IsDistinct-behind (eq_by_cmp R) front rest (IsDistinct-IsPermutation (eq_by_cmp R) (is_eq-turned o) rows (front ++ rest) moved distinct) in
      let behind = ascending-permutation o rest apart in
      let none : All (NoneBefore rest) front = λ k d low. above (get_or front k d) (split.0 k d low) in
      let later : All (NoneBefore others) sorted =
      All-weaker (NoneBefore rest) (NoneBefore others) (λ row before. All-permutation (λ other. is_lt (R other row) ≡ false) rest others behind before) sorted (All-permutation (NoneBefore rest) front sorted placed none) in
      let all = IsPermutation-trans rows (front ++ rest) (sorted ++ others) moved
      (IsPermutation-trans (front ++ rest) (sorted ++ rest) (sorted ++ others) (IsPermutation-append_left rest front sorted placed) (IsPermutation-append_right sorted rest others behind)) in
      let whole = sorted-ascending o rows (sorted ++ others) distinct all (IsSorted-append sorted others rise (IsSorted-strictly others (ascending-sorted o rest)) later) in
      sym (ap (take (length front)) (sym whole) ∙ take_at sorted others (length front) (length_permutation front sorted placed))
    where
      above : (row : A) → is_lt (R x row) ≡ false → NoneBefore (x ∷ back) row
      above row least zero e within = least
      above row least (suc k) e within = order.chain _ x row (split.1 k e (omega (arith, within))) least

-- Distinct rows that a sort put in order, whatever its steps, are these rows in ascending order.
use Rattle.std.specs.{BTreeSet.insert_key, Cmp.IsTotalOrder, Fn.Called, List.{All, AllByRecursion, Contains, IsDistinct, sum_by, Sorted.{IsPermutation, IsSorted, IsSortedByClosure, IsStrictlySortedBy}}, Ordering.{eq_by_cmp, is_eq, is_lt, match_ordering}, Prelude.fold, declared.cmp.Ordering.{Ordering, TheVariants.{Less, Equal, Greater}}}
use Rattle.std.proofs.{Common.{◌≡◌, ℕ, zero, suc, ◌+◌, ◌<◌, Bool, true, false, List, [], ◌∷◌, ◌++◌, Bor, refl, sym, ap, ap₂, ◌∙◌, arith, length, get_or}, lemmas.{Cmp.{tied_itself, tied_back}, Fn.always_returns_same, List.{append-nil, Elements.{All-contains, All-from_recursion, All-head, All-tail, All-nil, recursion_from_All, Contains-get_or}, Sorted.{IsPermutation-append_right, IsPermutation-cons, IsPermutation-middle, IsPermutation-refl, IsPermutation-sym, IsPermutation-trans, Contains-permutation, ranks_by, sorted_far, sum_by-IsPermutation}, Sums.sum_by-cons}, Map.Views.All-insert_key}}
use Rattle.span_keyed_tracks.specs.Keyed.{ascending}
use Rattle.span_keyed_tracks.proofs.Sorted.{AllByRecursion-map, ascending-sorted}
use denote.Param.Members.{Mut}

module _ {K : Type 0} {R : K → K → Ordering} (o : IsTotalOrder R) where
  -- from the clause `sorted` of a sort whose calls compare by an order
  pub IsSorted-from_sort_by : {F : Type 0} {g : Mut F (Bor K × (Bor K × Unit {0})) Ordering} {f : F} (sorted : List K) → IsSortedByClosure g f sorted →
      ((a : Bor K × (Bor K × Unit {0})) (r : Ordering) (f' : F) → Called g f a r f' → (r ≡ R a.0.now a.1.0.now) × (f' ≡ f)) → IsSorted R sorted
  IsSorted-from_sort_by {g = g} {f = f} sorted clause answers =
      clause (λ a b. is_lt (R a b)) (ranks_by o (λ a. a)) (always_returns_same g (λ a r. is_lt r ≡ is_lt (R a.0.now a.1.0.now)) f (λ a r f' call. (ap is_lt (answers a r f' call).0, (answers a r f' call).1)))

  -- a row that ties with none of sorted ones is one more of them
  insert_key-permutation : (k : K) (ks : List K) → All (λ z. eq_by_cmp R z k ≡ false) ks → IsPermutation (k ∷ ks) (insert_key R ks k)
  insert_key-permutation k [] apart = IsPermutation-refl (k ∷ [])
  insert_key-permutation k (x ∷ xs) apart = by (R k x) refl (insert_key-permutation k xs (All-tail (λ z. eq_by_cmp R z k ≡ false) x xs apart))
    where
      by : (r : Ordering) → R k x ≡ r → IsPermutation (k ∷ xs) (insert_key R xs k) → IsPermutation (k ∷ x ∷ xs) (match_ordering r (k ∷ x ∷ xs) (x ∷ xs) (x ∷ insert_key R xs k))
      by Less e rest = IsPermutation-refl (k ∷ x ∷ xs)
      by Equal e rest =
          let tied : eq_by_cmp R x k ≡ true = ap is_eq (tied_back o k x e) in
          let untied : eq_by_cmp R x k ≡ false = All-head (λ z. eq_by_cmp R z k ≡ false) x xs apart in
          absurd cc
      by Greater e rest = IsPermutation-trans (k ∷ x ∷ xs) (x ∷ k ∷ xs) (x ∷ insert_key R xs k) (IsPermutation-middle (k ∷ []) x xs) (IsPermutation-cons x (k ∷ xs) (insert_key R xs k) rest)

  -- none of the keys ties with one of those that are done
  abbrev AreApart : List K → List K → Type 0
  AreApart keys done = AllByRecursion (λ k. All (λ z. eq_by_cmp R z k ≡ false) done) keys

  AreApart-insert_key : (k : K) (keys done : List K) → AllByRecursion (λ y. eq_by_cmp R k y ≡ false) keys → AreApart keys done → AreApart keys (insert_key R done k)
  AreApart-insert_key k [] done own apart = tt
  AreApart-insert_key k (y ∷ keys) done own apart = (All-insert_key R k (λ z. eq_by_cmp R z y ≡ false) done apart.0 own.0, AreApart-insert_key k keys done own.1 apart.1)

  -- distinct rows, added to sorted ones with which none of them ties, are so many more of these
  fold-permutation : (keys done : List K) → IsDistinct (eq_by_cmp R) keys → AreApart keys done → IsPermutation (keys ++ done) (fold (insert_key R) done keys)
  unfolding IsDistinct
  fold-permutation [] done distinct apart = IsPermutation-refl done
  fold-permutation (k ∷ keys) done distinct apart =
      let one : IsPermutation (k ∷ (keys ++ done)) (keys ++ k ∷ done) = IsPermutation-sym (keys ++ k ∷ done) (k ∷ (keys ++ done)) (IsPermutation-middle keys k done) in
      let placed : IsPermutation (keys ++ k ∷ done) (keys ++ insert_key R done k) = IsPermutation-append_right keys (k ∷ done) (insert_key R done k) (insert_key-permutation k done apart.0) in
      IsPermutation-trans (k ∷ (keys ++ done)) (keys ++ k ∷ done) (fold (insert_key R) (insert_key R done k) keys) one
      (IsPermutation-trans (keys ++ k ∷ done) (keys ++ insert_key R done k) (fold (insert_key R) (insert_key R done k) keys) placed
      (fold-permutation keys (insert_key R done k) distinct.1 (AreApart-insert_key k keys done distinct.0 apart.1)))

  -- distinct rows in ascending order are these rows
  pub ascending-permutation : (rows : List K) → IsDistinct (eq_by_cmp R) rows → IsPermutation rows (ascending R rows)
  ascending-permutation rows distinct = rw (append-nil rows) at (fold-permutation rows [] distinct (none rows))
    where
      none : (keys : List K) → AreApart keys []
      none [] = tt
      none (k ∷ keys) = (All-nil _, none keys)

  -- no row comes before one that stands in front of it
  abbrev IsAscending : List K → Type 0
  IsAscending [] = Unit {0}
  IsAscending (x ∷ xs) = AllByRecursion (λ w. is_lt (R w x) ≡ false) xs × IsAscending xs

  IsAscending-sorted : (xs : List K) → IsSorted R xs → IsAscending xs
  IsAscending-sorted [] sorted = tt
  IsAscending-sorted (x ∷ xs) sorted =
      let lt : K → K → Bool = λ a b. is_lt (R a b) in (
        recursion_from_All (λ w. is_lt (R w x) ≡ false) xs (λ k d within. sorted_far lt (ranks_by o (λ a. a)) (x ∷ xs) sorted 0 (suc k) d (omega arith) (omega arith)),
        IsAscending-sorted xs (λ k d low within. let next : suc k + 1 ≡ suc (k + 1) = omega arith in rw next at (sorted (suc k) d (omega arith) (omega (arith, within)))),
      )

  abbrev one_if : Bool → ℕ
  one_if true = 1
  one_if false = 0

  -- 1 where two tie: summed over rows it is how many tie with one
  abbrev ties_of : K → K → ℕ
  ties_of y w = one_if (eq_by_cmp R y w)

  ties-none : (y : K) (ws : List K) → AllByRecursion (λ w. eq_by_cmp R y w ≡ false) ws → sum_by (ties_of y) ws ≡ 0
  ties-none y [] apart = refl
  ties-none y (w ∷ ws) apart = sum_by-cons (ties_of y) w ws ∙ ap₂ (λ a b. a + b) (ap one_if apart.0) (ties-none y ws apart.1)

  none-ties : (y : K) (ws : List K) → sum_by (ties_of y) ws ≡ 0 → AllByRecursion (λ w. eq_by_cmp R y w ≡ false) ws
  none-ties y [] none = tt
  none-ties y (w ∷ ws) none =
      let both : ties_of y w + sum_by (ties_of y) ws ≡ 0 = sym (sum_by-cons (ties_of y) w ws) ∙ none in
      (by (eq_by_cmp R y w) refl (omega (arith, both)), none-ties y ws (omega (arith, both)))
    where
      by : (b : Bool) → eq_by_cmp R y w ≡ b → one_if b ≡ 0 → b ≡ false
      by true e none = absurd (omega (arith, none))
      by false e none = refl

  -- a row ties with none of those that it is below
  apart-below : (y : K) (ys : List K) → AllByRecursion (λ z. R y z ≡ Less) ys → AllByRecursion (λ z. eq_by_cmp R y z ≡ false) ys
  apart-below y ys below = AllByRecursion-map (λ z. R y z ≡ Less) (λ z. eq_by_cmp R y z ≡ false) (λ z e. ap is_eq e) ys below

  -- nor with one that comes no earlier than a row above it
  apart-above : (x y : K) → R y x ≡ Less → (w : K) → is_lt (R w x) ≡ false → eq_by_cmp R y w ≡ false
  apart-above x y above w after = by (R y w) refl
    where
      by : (r : Ordering) → R y w ≡ r → is_eq r ≡ false
      by Less e = refl
      by Equal e =
          let less : is_lt (R w x) ≡ true = ap is_lt (sym (o.congr y w x e) ∙ above) in
          absurd cc
      by Greater e = refl

  -- a sorted list and a strictly sorted one that have the same rows, each as often, are the same
  sorted-same : (xs ys : List K) → IsAscending xs → IsStrictlySortedBy R ys → ((f : K → ℕ) → sum_by f xs ≡ sum_by f ys) → AllByRecursion (Contains ys) xs → xs ≡ ys
  unfolding IsStrictlySortedBy
  sorted-same [] [] up down sums among = refl
  sorted-same [] (y ∷ ys) up down sums among =
      let all : 0 ≡ 1 + sum_by (λ _. 1) ys = sums (λ _. 1) ∙ sum_by-cons (λ _. 1) y ys in absurd (omega (arith, all))
  sorted-same (x ∷ xs) [] up down sums among = absurd (omega (arith, among.0.1))
  sorted-same (x ∷ xs) (y ∷ ys) up down sums among = rw first (ap (λ l. y ∷ l) (sorted-same xs ys up.1 down.1 rest (rest_among xs (none-ties y xs (rest (ties_of y) ∙ ties-none y ys (apart-below y ys down.0))) among.1)))
    where
      tied : eq_by_cmp R y y ≡ true
      tied = ap is_eq (tied_itself o y)

      below : R y x ≡ Less → ⊥
      below above =
          let none : sum_by (ties_of y) (x ∷ xs) ≡ 0 = ties-none y (x ∷ xs) (ap is_eq above, AllByRecursion-map (λ w. is_lt (R w x) ≡ false) (λ w. eq_by_cmp R y w ≡ false) (apart-above x y above) xs up.0) in
          let some : sum_by (ties_of y) (y ∷ ys) ≡ 1 + sum_by (ties_of y) ys = sum_by-cons (ties_of y) y ys ∙ ap (λ b. one_if b + sum_by (ties_of y) ys) tied in
          let same : sum_by (ties_of y) (x ∷ xs) ≡ sum_by (ties_of y) (y ∷ ys) = sums (ties_of y) in
          omega (arith, none, some, same)

      first : x ≡ y
      first = by among.0.0 among.0.1 among.0.2
        where
          by : (k : ℕ) → k < length (y ∷ ys) → get_or (y ∷ ys) k x ≡ x → x ≡ y
          by zero within is = sym is
          by (suc k) within is = absurd (below (All-contains (λ z. R y z ≡ Less) ys x (All-from_recursion (λ z. R y z ≡ Less) ys down.0) (k, omega (arith, within), is)))

      rest : (f : K → ℕ) → sum_by f xs ≡ sum_by f ys
      rest f =
          let left : sum_by f (x ∷ xs) ≡ f x + sum_by f xs = sum_by-cons f x xs in
          let right : sum_by f (y ∷ ys) ≡ f y + sum_by f ys = sum_by-cons f y ys in
          let same : sum_by f (x ∷ xs) ≡ sum_by f (y ∷ ys) = sums f in
          let heads : f x ≡ f y = ap f first in
          omega (arith, left, right, same, heads)

      rest_among : (ws : List K) → AllByRecursion (λ w. eq_by_cmp R y w ≡ false) ws → AllByRecursion (Contains (y ∷ ys)) ws → AllByRecursion (Contains ys) ws
      rest_among [] apart among = tt
      rest_among (w ∷ ws) apart among = (by among.0.0 among.0.1 among.0.2, rest_among ws apart.1 among.1)
        where
          by : (k : ℕ) → k < length (y ∷ ys) → get_or (y ∷ ys) k w ≡ w → Contains ys w
          by zero within is =
              let untied : eq_by_cmp R y y ≡ false = ap (λ z. eq_by_cmp R y z) is ∙ apart.0 in
              let own : eq_by_cmp R y y ≡ true = tied in
              absurd cc
          by (suc k) within is = (k, omega (arith, within), is)

  -- rows that a sort put in order are these in ascending order
  pub sorted-ascending : (rows sorted : List K) → IsDistinct (eq_by_cmp R) rows → IsPermutation rows sorted → IsSorted R sorted → sorted ≡ ascending R rows
  sorted-ascending rows sorted distinct moved order =
      let placed : IsPermutation sorted (ascending R rows) = IsPermutation-trans sorted rows (ascending R rows) (IsPermutation-sym rows sorted moved) (ascending-permutation rows distinct) in
      sorted-same sorted (ascending R rows) (IsAscending-sorted sorted order) (ascending-sorted o rows)
      (λ f. sym (sum_by-IsPermutation f sorted (ascending R rows) placed))
      (recursion_from_All (Contains (ascending R rows)) sorted (λ k d within. Contains-permutation sorted (ascending R rows) (get_or sorted k d) placed (Contains-get_or sorted k d within)))

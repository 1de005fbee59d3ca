-- The place of the first element that passes a test.
use Rattle.std.specs.{Cmp.IsEquivalence, List.{AllByRecursion, IsDistinct, position_or_len, list_any}}
use Rattle.std.proofs.{Common.{◌≡◌, ℕ, zero, suc, ◌+◌, ◌<◌, get_or, Bool, true, false, not, cond, nat_lt, List, [], ◌∷◌, ◌++◌, length, Some, None, position, refl, sym, ap, ◌∙◌, arith, ltb-false, ltb-true, lt-ltb, length-append, ◌≢◌}, lemmas.{List.{length_push, Sums.{position_or_len_is, prefix_len-le-length}}, Map.Keys.{IsDistinct-head, IsDistinct-tail}}}

module _ {A : Type 0} (p : A → Bool) where
  -- where none passes, the place is the length
  pub position_or_len-None : (xs : List A) → position p xs ≡ None → position_or_len p xs ≡ length xs
  position_or_len-None xs none = by_test (nat_lt (position_or_len p xs) (length xs)) refl none
    where
      by_test : (b : Bool) → nat_lt (position_or_len p xs) (length xs) ≡ b → cond b (Some (position_or_len p xs)) None ≡ None → position_or_len p xs ≡ length xs
      by_test true h found = cc
      by_test false h found =
          omega (arith, ltb-false (position_or_len p xs) (length xs) h, prefix_len-le-length (λ x. not (p x)) xs)

  at_head : (x : A) (xs : List A) → position_or_len p (x ∷ xs) ≡ length (x ∷ xs) → (p x ≡ false) × (position_or_len p xs ≡ length xs)
  at_head x xs all = by_test (p x) refl all
    where
      by_test : (b : Bool) → p x ≡ b → cond (not b) (1 + position_or_len p xs) 0 ≡ length (x ∷ xs) → (p x ≡ false) × (position_or_len p xs ≡ length xs)
      by_test true h all = absurd (omega arith)
      by_test false h all = (h, omega arith)

  -- the place is the length only where none passes
  pub list_any-None : (xs : List A) → position_or_len p xs ≡ length xs → list_any p xs ≡ false
  list_any-None [] all = refl
  list_any-None (x ∷ xs) all =
      let parts = at_head x xs all in rw parts.0 (list_any-None xs parts.1)

  position_or_len-append : (xs : List A) (y : A) → position_or_len p xs ≡ length xs → p y ≡ true → position_or_len p (xs ++ y ∷ []) ≡ length xs
  position_or_len-append [] y all here = rw here
  position_or_len-append (x ∷ xs) y all here =
      let parts = at_head x xs all in rw parts.0 (omega (arith, position_or_len-append xs y parts.1 here))

  -- where none passed before, the one that was added is the first that passes
  pub position-append : (xs : List A) (y : A) → position p xs ≡ None → p y ≡ true → position p (xs ++ y ∷ []) ≡ Some (length xs)
  position-append xs y none here =
      let place = position_or_len-append xs y (position_or_len-None xs none) here in
      let within : nat_lt (length xs) (length (xs ++ y ∷ [])) ≡ true = lt-ltb _ _ (omega (arith, length_push xs y)) in
      rw (place, within)

  -- what follows a list doesn't move the first that passes
  position_or_len-front : (xs ys : List A) → position_or_len p xs ≢ length xs → position_or_len p (xs ++ ys) ≡ position_or_len p xs
  position_or_len-front [] ys some = absurd (some refl)
  position_or_len-front (x ∷ xs) ys some = by_test (p x) (λ among. position_or_len-front xs ys among) refl
    where
      by_test : (b : Bool) → (position_or_len p xs ≢ length xs → position_or_len p (xs ++ ys) ≡ position_or_len p xs) → p x ≡ b → cond (not b) (1 + position_or_len p (xs ++ ys)) 0 ≡ cond (not b) (1 + position_or_len p xs) 0
      by_test true rest here = refl
      by_test false rest here =
          ap (λ n. 1 + n) (rest (λ all. some (rw here (omega arith))))

  -- what follows a list does not move the first of it that passes
  pub position-front : (xs ys : List A) (n : ℕ) → position p xs ≡ Some n → position p (xs ++ ys) ≡ Some n
  position-front xs ys n found = by_test (nat_lt (position_or_len p xs) (length xs)) refl found
    where
      by_test : (b : Bool) → nat_lt (position_or_len p xs) (length xs) ≡ b → cond b (Some (position_or_len p xs)) None ≡ Some n → position p (xs ++ ys) ≡ Some n
      by_test false within found = absurd (cc)
      by_test true within found =
          let below = ltb-true (position_or_len p xs) (length xs) within in
          let stays = position_or_len-front xs ys (λ all. omega arith) in
          let still : nat_lt (position_or_len p xs) (length (xs ++ ys)) ≡ true = lt-ltb _ _ (omega (arith, length-append xs ys)) in
          rw (stays, still) found

AllByRecursion-at : {A : Type 0} (P : A → Type 0) (xs : List A) (i : ℕ) (d : A) → i < length xs → AllByRecursion P xs → P (get_or xs i d)
AllByRecursion-at P [] i d within all = absurd (omega arith)
AllByRecursion-at P (x ∷ xs) zero d within all = all.0
AllByRecursion-at P (x ∷ xs) (suc i) d within all = AllByRecursion-at P xs i d (omega arith) all.1

-- of elements that differ an earlier one isn't a later one
apart-IsDistinct : {A : Type 0} (e : A → A → Bool) (xs : List A) (k i : ℕ) (d : A) → IsDistinct e xs → k < i → i < length xs → e (get_or xs k d) (get_or xs i d) ≡ false
apart-IsDistinct e [] k i d distinct less within = absurd (omega arith)
apart-IsDistinct e (x ∷ xs) k zero d distinct less within = absurd (omega arith)
apart-IsDistinct e (x ∷ xs) zero (suc i) d distinct less within = AllByRecursion-at _ xs i d (omega arith) (IsDistinct-head e x xs distinct)
apart-IsDistinct e (x ∷ xs) (suc k) (suc i) d distinct less within = apart-IsDistinct e xs k i d (IsDistinct-tail e x xs distinct) (omega arith) (omega arith)

-- where elements differ, the place of one that is equal to x is the first that passes the test
pub position-IsDistinct : {A : Type 0} (e : A → A → Bool) → IsEquivalence e → (xs : List A) (n : ℕ) (d x : A) → IsDistinct e xs → n < length xs → e (get_or xs n d) x ≡ true → position (λ y. e y x) xs ≡ Some n
position-IsDistinct e laws xs n d x distinct within same =
    let before : (k : ℕ) → k < n → e (get_or xs k d) x ≡ false = λ k less.
    laws.symm (get_or xs k d) x ∙ sym (laws.congr (get_or xs n d) x (get_or xs k d) same)
    ∙ laws.symm (get_or xs n d) (get_or xs k d) ∙ apart-IsDistinct e xs k n d distinct less within in
    let place = position_or_len_is (λ y. e y x) xs n d (omega arith) before (λ less. same) in
    let inside : nat_lt n (length xs) ≡ true = lt-ltb _ _ within in
    rw (place, inside) refl

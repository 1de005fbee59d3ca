-- In a list that a strict order ranks, exactly one of the elements that pass a test has none of them above it.
use Rattle.std.specs.List.{sum_by, list_any}
use Rattle.std.proofs.{Common.{◌≡◌, ℕ, ◌+◌, Bool, true, false, not, ◌&&◌, ◌||◌, cond, List, [], ◌∷◌, refl, sym, ap, ap₂, ◌∙◌, true≢false, arith, inl, inr}, lemmas.{Bool.{and_parts, and_from, or_cases, or_left, or_right, or_parts}, List.Sums.sum_by-cons}}

-- 1 where the test passes
abbrev pub one_if : Bool → ℕ
one_if b = cond b 1 0

-- x ranks above or below each of the others
abbrev pub IsConnected : {A : Type 0} → (A → A → Bool) → A → List A → Type 0
IsConnected R x [] = Unit {0}
IsConnected R x (y ∷ ys) = ((R x y || R y x) ≡ true) × IsConnected R x ys

-- of two elements at different places, one ranks above the other
abbrev pub IsRanked : {A : Type 0} → (A → A → Bool) → List A → Type 0
IsRanked R [] = Unit {0}
IsRanked R (x ∷ xs) = IsConnected R x xs × IsRanked R xs

pub sum_by-same : {A : Type 0} (f g : A → ℕ) → ((x : A) → f x ≡ g x) → (xs : List A) → sum_by f xs ≡ sum_by g xs
sum_by-same f g same [] = refl
sum_by-same f g same (x ∷ xs) =
    sum_by-cons f x xs ∙ ap₂ ◌+◌ (same x) (sum_by-same f g same xs) ∙ sym (sum_by-cons g x xs)

-- of the two tests, the first adds nothing
or_implied : (c r t : Bool) → (r ≡ true → t ≡ true) → one_if (c && not (r || t)) ≡ one_if (c && not t)
or_implied false r t h = refl
or_implied true false t h = refl
or_implied true true true h = refl
or_implied true true false h = absurd (true≢false (sym (h refl)))

-- an element below another does not count
below_counts : (c above below t : Bool) → (above || below) ≡ true → (c && below) ≡ false → one_if (c && not (above || t)) ≡ 0
below_counts false above below t h k = refl
below_counts true true below t h k = refl
below_counts true false true t h k = absurd (true≢false k)
below_counts true false false t h k = absurd (true≢false (sym h))

module _ {A : Type 0} (R : A → A → Bool) (c : A → Bool) where
  -- some x that passes ranks above s
  abbrev pub is_below : A → List A → Bool
  is_below s xs = list_any (λ x. c x && R x s) xs

  is_below_through : ((x y z : A) → R x y ≡ true → R y z ≡ true → R x z ≡ true) → (s z : A) (xs : List A) → R s z ≡ true → is_below s xs ≡ true → is_below z xs ≡ true
  is_below_through trans s z [] above h = h
  is_below_through trans s z (x ∷ xs) above h =
      elim (or_cases (c x && R x s) (is_below s xs) h) [
        | inl here ↦ let parts = and_parts (c x) (R x s) here in or_left (c x && R x z) (is_below z xs) (and_from (c x) (R x z) parts.0 (trans x s z parts.1 above))
        | inr there ↦ or_right (c x && R x z) (is_below z xs) (is_below_through trans s z xs above there)
      ]

  list_any_from_below : (s : A) (xs : List A) → is_below s xs ≡ true → list_any c xs ≡ true
  list_any_from_below s [] h = h
  list_any_from_below s (x ∷ xs) h =
      elim (or_cases (c x && R x s) (is_below s xs) h) [
        | inl here ↦ or_left (c x) (list_any c xs) (and_parts (c x) (R x s) here).0
        | inr there ↦ or_right (c x) (list_any c xs) (list_any_from_below s xs there)
      ]

  -- below an element that is itself not below any, nothing counts
  sum_by-below : (t : A → Bool) (s : A) (xs : List A) → IsConnected R s xs → is_below s xs ≡ false → sum_by (λ x. one_if (c x && not (R s x || t x))) xs ≡ 0
  sum_by-below t s [] connected h = refl
  sum_by-below t s (x ∷ xs) connected h =
      let parts = or_parts (c x && R x s) (is_below s xs) h in
      let here = below_counts (c x) (R s x) (R x s) (t x) connected.0 parts.0 in
      let there = sum_by-below t s xs connected.1 parts.1 in
      sum_by-cons (λ x. one_if (c x && not (R s x || t x))) x xs ∙ omega (arith, here, there)

  -- what the head adds, by whether some of the rest is above it
  tops_under : ((x y z : A) → R x y ≡ true → R y z ≡ true → R x z ≡ true) → (x : A) (xs : List A) → IsConnected R x xs → sum_by (λ s. one_if (c s && not (is_below s xs))) xs ≡ one_if (list_any c xs) → (t : Bool) → is_below x xs ≡ t → one_if (not t) + sum_by (λ s. one_if (c s && not (R x s || is_below s xs))) xs ≡ 1
  tops_under trans x xs connected rest true h =
      let same = sum_by-same (λ s. one_if (c s && not (R x s || is_below s xs))) (λ s. one_if (c s && not (is_below s xs)))
      (λ s. or_implied (c s) (R x s) (is_below s xs) (λ above. is_below_through trans x s xs above h)) xs in
      let some = ap one_if (list_any_from_below x xs h) in
      omega (arith, same, rest, some)
  tops_under trans x xs connected rest false h =
      omega (arith, sum_by-below (λ s. is_below s xs) x xs connected h)

  tops_with_head : ((x : A) → R x x ≡ false) → ((x y z : A) → R x y ≡ true → R y z ≡ true → R x z ≡ true) → (x : A) (xs : List A) → IsConnected R x xs → sum_by (λ s. one_if (c s && not (is_below s xs))) xs ≡ one_if (list_any c xs) → (b : Bool) → one_if (b && not ((b && R x x) || is_below x xs)) + sum_by (λ s. one_if (c s && not ((b && R x s) || is_below s xs))) xs ≡ one_if (b || list_any c xs)
  tops_with_head irrefl trans x xs connected rest false = omega (arith, rest)
  tops_with_head irrefl trans x xs connected rest true =
      rw (irrefl x) (tops_under trans x xs connected rest (is_below x xs) refl)

  -- one element is on top, where any passes
  pub sum_by-tops : ((x : A) → R x x ≡ false) → ((x y z : A) → R x y ≡ true → R y z ≡ true → R x z ≡ true) → (xs : List A) → IsRanked R xs → sum_by (λ s. one_if (c s && not (is_below s xs))) xs ≡ one_if (list_any c xs)
  sum_by-tops irrefl trans [] ranked = refl
  sum_by-tops irrefl trans (x ∷ xs) ranked =
      sum_by-cons (λ s. one_if (c s && not ((c x && R x s) || is_below s xs))) x xs
      ∙ tops_with_head irrefl trans x xs ranked.0 (sum_by-tops irrefl trans xs ranked.1) (c x)

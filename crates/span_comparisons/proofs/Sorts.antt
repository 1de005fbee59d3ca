-- Numbers in ascending order, however they were put so.
use Rattle.std.specs.{Bool.nat_lt, List.{AllByRecursion, sum_by, Sorted.{IsNonDecreasing, IsPermutation, IsSorted}}, Ordering.nat_cmp}
use Rattle.std.proofs.{Common.{◌≡◌, ℕ, zero, suc, ◌+◌, ◌-◌, ◌<◌, ◌≤◌, ◌==◌, Bool, true, false, cond, List, [], ◌∷◌, length, get_or, refl, sym, ap, ap₂, ◌∙◌, arith}, lemmas.List.{Sorted.{IsNonDecreasingBy-from_sort, IsPermutation-cons, IsPermutation-middle, IsPermutation-refl, IsPermutation-trans, length_permutation, sum_by-IsPermutation}, Sums.sum_by-cons}}
use Rattle.span_keyed_tracks.proofs.Sorted.{AllByRecursion-map}
use Rattle.span_comparisons.specs.Spreads.{put_in_order, sorted}

-- no number is less than one before it
abbrev Rises : List ℕ → Type 0
Rises [] = Unit {0}
Rises (n ∷ ns) = AllByRecursion (λ m. n ≤ m) ns × Rises ns

put_in_order-permutation : (n : ℕ) (ns : List ℕ) → IsPermutation (n ∷ ns) (put_in_order n ns)
put_in_order-permutation n [] = IsPermutation-refl (n ∷ [])
put_in_order-permutation n (m ∷ ms) = by (nat_lt m n) (put_in_order-permutation n ms)
  where
    by : (b : Bool) → IsPermutation (n ∷ ms) (put_in_order n ms) → IsPermutation (n ∷ m ∷ ms) (cond b (m ∷ put_in_order n ms) (n ∷ m ∷ ms))
    by true rest =
        IsPermutation-trans (n ∷ m ∷ ms) (m ∷ n ∷ ms) (m ∷ put_in_order n ms) (IsPermutation-middle (n ∷ []) m ms) (IsPermutation-cons m (n ∷ ms) (put_in_order n ms) rest)
    by false rest = IsPermutation-refl (n ∷ m ∷ ms)

-- sorted numbers are these numbers
pub sorted-permutation : (ns : List ℕ) → IsPermutation ns (sorted ns)
sorted-permutation [] = IsPermutation-refl []
sorted-permutation (n ∷ ns) =
    IsPermutation-trans (n ∷ ns) (n ∷ sorted ns) (sorted (n ∷ ns)) (IsPermutation-cons n ns (sorted ns) (sorted-permutation ns)) (put_in_order-permutation n (sorted ns))

above-placed : (k n : ℕ) (ns : List ℕ) → k ≤ n → AllByRecursion (λ m. k ≤ m) ns → AllByRecursion (λ m. k ≤ m) (put_in_order n ns)
above-placed k n [] low all = (low, tt)
above-placed k n (m ∷ ms) low all = by (nat_lt m n) (above-placed k n ms low all.1)
  where
    by : (b : Bool) → AllByRecursion (λ m. k ≤ m) (put_in_order n ms) → AllByRecursion (λ m. k ≤ m) (cond b (m ∷ put_in_order n ms) (n ∷ m ∷ ms))
    by true rest = (all.0, rest)
    by false rest = (low, all)

put_in_order-rises : (n : ℕ) (ns : List ℕ) → Rises ns → Rises (put_in_order n ns)
put_in_order-rises n [] rise = (tt, tt)
put_in_order-rises n (m ∷ ms) rise = by (nat_lt m n) refl (put_in_order-rises n ms rise.1)
  where
    by : (b : Bool) → nat_lt m n ≡ b → Rises (put_in_order n ms) → Rises (cond b (m ∷ put_in_order n ms) (n ∷ m ∷ ms))
    by true e rest = (above-placed m n ms (grind (arith, e)) rise.0, rest)
    by false e rest =
        let low : n ≤ m = grind (arith, e) in
        ((low, AllByRecursion-map (λ k. m ≤ k) (λ k. n ≤ k) (λ k h. omega (arith, low, h)) ms rise.0), rise)

sorted-rises : (ns : List ℕ) → Rises (sorted ns)
sorted-rises [] = tt
sorted-rises (n ∷ ns) = put_in_order-rises n (sorted ns) (sorted-rises ns)

-- 1 at this number: summed over numbers it is how often it is among them
abbrev one_at : ℕ → ℕ → ℕ
one_at n m = cond (n == m) 1 0

none-above : (n : ℕ) (ms : List ℕ) → AllByRecursion (λ m. suc n ≤ m) ms → sum_by (one_at n) ms ≡ 0
none-above n [] all = refl
none-above n (m ∷ ms) all =
    let other : one_at n m ≡ 0 = grind (arith, all.0) in
    sum_by-cons (one_at n) m ms ∙ ap₂ (λ a b. a + b) other (none-above n ms all.1)

-- numbers that rise and are the same numbers are the same list
rises-same : (ns ms : List ℕ) → Rises ns → Rises ms → ((f : ℕ → ℕ) → sum_by f ns ≡ sum_by f ms) → ns ≡ ms
rises-same [] [] up down sums = refl
rises-same [] (m ∷ ms) up down sums =
    let all : 0 ≡ 1 + sum_by (λ _. 1) ms = sums (λ _. 1) ∙ sum_by-cons (λ _. 1) m ms in absurd (omega (arith, all))
rises-same (n ∷ ns) [] up down sums =
    let all : 0 ≡ 1 + sum_by (λ _. 1) ns = sym (sums (λ _. 1)) ∙ sum_by-cons (λ _. 1) n ns in absurd (omega (arith, all))
rises-same (n ∷ ns) (m ∷ ms) up down sums = ap₂ (λ a l. a ∷ l) first (rises-same ns ms up.1 down.1 rest)
  where
    own : (k : ℕ) → one_at k k ≡ 1
    own k = grind arith

    -- the lesser of two first numbers would be missing on the other side
    not_less : (k l : ℕ) (ks ls : List ℕ) → AllByRecursion (λ j. l ≤ j) ls → ((f : ℕ → ℕ) → sum_by f (k ∷ ks) ≡ sum_by f (l ∷ ls)) → k < l → ⊥
    not_less k l ks ls all same less =
        let none : sum_by (one_at k) (l ∷ ls) ≡ 0 = none-above k (l ∷ ls) (omega (arith, less), AllByRecursion-map (λ j. l ≤ j) (λ j. suc k ≤ j) (λ j h. omega (arith, less, h)) ls all) in
        let some : sum_by (one_at k) (k ∷ ks) ≡ 1 + sum_by (one_at k) ks = sum_by-cons (one_at k) k ks ∙ ap (λ a. a + sum_by (one_at k) ks) (own k) in
        omega (arith, sym some ∙ same (one_at k) ∙ none)

    first : n ≡ m
    first =
        let low = not_less n m ns ms down.0 sums in
        let high = not_less m n ms ns up.0 (λ f. sym (sums f)) in
        search (arith, low, high)

    rest : (f : ℕ → ℕ) → sum_by f ns ≡ sum_by f ms
    rest f =
        let left = sum_by-cons f n ns in
        let right = sum_by-cons f m ms in
        let heads : f n ≡ f m = ap f first in
        omega (arith, left, right, heads, sums f)

above-least : (n : ℕ) (ns : List ℕ) → ((k : ℕ) → k < length ns → n ≤ get_or ns k 0) → AllByRecursion (λ m. n ≤ m) ns
above-least n [] all = tt
above-least n (m ∷ ms) all = (all 0 (omega arith), above-least n ms (λ k low. all (suc k) (omega (arith, low))))

Rises-from_non_decreasing : (ns : List ℕ) → IsNonDecreasing ns → Rises ns
Rises-from_non_decreasing [] up = tt
Rises-from_non_decreasing (n ∷ ns) up = (
  above-least n ns (λ k low. up 0 (suc k) 0 (omega arith) (omega (arith, low))),
  Rises-from_non_decreasing ns (λ i j d le low. up (suc i) (suc j) d (omega (arith, le)) (omega (arith, low))),
)

from-above : (n : ℕ) (ns : List ℕ) → AllByRecursion (λ m. n ≤ m) ns → (k d : ℕ) → k < length ns → n ≤ get_or ns k d
from-above n [] all k d low = absurd (omega (arith, low))
from-above n (m ∷ ms) all zero d low = all.0
from-above n (m ∷ ms) all (suc k) d low = from-above n ms all.1 k d (omega (arith, low))

non_decreasing-from_Rises : (ns : List ℕ) → Rises ns → IsNonDecreasing ns
non_decreasing-from_Rises [] rise i j d le low = absurd (omega (arith, low))
non_decreasing-from_Rises (n ∷ ns) rise zero zero d le low = omega arith
non_decreasing-from_Rises (n ∷ ns) rise zero (suc j) d le low = from-above n ns rise.0 j d (omega (arith, low))
non_decreasing-from_Rises (n ∷ ns) rise (suc i) zero d le low = absurd (omega (arith, le))
non_decreasing-from_Rises (n ∷ ns) rise (suc i) (suc j) d le low = non_decreasing-from_Rises ns rise.1 i j d (omega (arith, le)) (omega (arith, low))

-- sorted numbers don't fall
pub sorted-non_decreasing : (ns : List ℕ) → IsNonDecreasing (sorted ns)
sorted-non_decreasing ns = non_decreasing-from_Rises (sorted ns) (sorted-rises ns)

-- numbers that a sort put in order are the sorted numbers
pub sorted-from_sort : (ns ms : List ℕ) → IsPermutation ns ms → IsSorted nat_cmp ms → ms ≡ sorted ns
sorted-from_sort ns ms moved up =
    rises-same ms (sorted ns) (Rises-from_non_decreasing ms (IsNonDecreasingBy-from_sort (λ n. n) ms up)) (sorted-rises ns)
    (λ f. sum_by-IsPermutation f ns ms moved ∙ sym (sum_by-IsPermutation f ns (sorted ns) (sorted-permutation ns)))

-- they are the same for numbers in whatever order
pub sorted-moved : (ns ms : List ℕ) → IsPermutation ns ms → sorted ns ≡ sorted ms
sorted-moved ns ms moved =
    rises-same (sorted ns) (sorted ms) (sorted-rises ns) (sorted-rises ms)
    (λ f. sum_by-IsPermutation f ns (sorted ns) (sorted-permutation ns) ∙ sym (sum_by-IsPermutation f ns ms moved) ∙ sym (sum_by-IsPermutation f ms (sorted ms) (sorted-permutation ms)))

-- there are as many
pub length-sorted : (ns : List ℕ) → length (sorted ns) ≡ length ns
length-sorted ns = length_permutation ns (sorted ns) (sorted-permutation ns)

-- the first of them is not greater than the last
pub sorted-ends : (ns : List ℕ) → get_or (sorted ns) 0 0 ≤ get_or (sorted ns) (length ns - 1) 0
sorted-ends [] = omega arith
sorted-ends (n ∷ ns) = sorted-non_decreasing (n ∷ ns) 0 (length (n ∷ ns) - 1) 0 (omega arith) (omega (arith, length-sorted (n ∷ ns)))

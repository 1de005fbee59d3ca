-- How many ticks of a stretch of time pass a test.
use Rattle.std.specs.List.{sum_by}
use Rattle.std.proofs.{Common.{◌≡◌, cond, ◌≤◌, ◌<◌, ℕ, zero, suc, ◌+◌, Bool, true, false, ◌&&◌, ℤ, pos, negsuc, ◌+ℤ◌, ◌-ℤ◌, ◌≤ℤ◌, ◌<ℤ◌, int_lt, int_le, refl, sym, ap, ap₂, ◌∙◌, arith, zero-add, List, [], ◌∷◌}, lemmas.{Grind.common_steps, Bool.{and_left, and_right, and_from}, Int.{ints}, List.Sums.sum_by-cons}}
use Rattle.span_self_time.specs.{distance, natural, Spans.{Span, count_from, covers, length_of}}
use Rattle.span_self_time.proofs.Tops.{one_if}

pos-natural : (z : ℤ) → pos 0 ≤ℤ z → pos (natural z) ≡ z
pos-natural (pos n) h = refl
pos-natural (negsuc n) h = absurd (omega (arith, ints))

-- b lies a distance after a
pub add-distance : (a b : ℤ) → a ≤ℤ b → (a +ℤ pos (distance a b)) ≡ b
add-distance a b h = let e = pos-natural (b -ℤ a) (omega (arith, ints)) in omega (arith, ints, e)

pub distance-add : (a b c : ℤ) → a ≤ℤ b → b ≤ℤ c → distance a c ≡ distance a b + distance b c
distance-add a b c first then = grind (arith, ints, common_steps)

pub count_from-add : (p : ℤ → Bool) (t : ℤ) (m n : ℕ) → count_from t (m + n) p ≡ count_from t m p + count_from (t +ℤ pos m) n p
count_from-add p t zero n =
    let here : (t +ℤ pos 0) ≡ t = omega (arith, ints) in
    rw (zero-add n, here) (sym (zero-add (count_from t n p)))
count_from-add p t (suc m) n =
    let longer : suc m + n ≡ suc (m + n) = omega arith in
    let later : ((t +ℤ pos 1) +ℤ pos m) ≡ (t +ℤ pos (suc m)) = omega (arith, ints) in
    let rest = count_from-add p (t +ℤ pos 1) m n in
    let moved = ap (λ u. count_from u n p) later in
    rw longer (omega (arith, rest, moved))

pub count_from-same : (p q : ℤ → Bool) (t : ℤ) (n : ℕ) → ((u : ℤ) → t ≤ℤ u → u <ℤ (t +ℤ pos n) → p u ≡ q u) → count_from t n p ≡ count_from t n q
count_from-same p q t zero same = refl
count_from-same p q t (suc n) same = grind (arith, ints, common_steps, count_from-same p q (t +ℤ pos 1) n (λ u from before. same u (omega (arith, ints)) (omega (arith, ints))))

pub count_from-none : (p : ℤ → Bool) (t : ℤ) (n : ℕ) → ((u : ℤ) → t ≤ℤ u → u <ℤ (t +ℤ pos n) → p u ≡ false) → count_from t n p ≡ 0
count_from-none p t zero none = refl
count_from-none p t (suc n) none = grind (arith, ints, common_steps, count_from-none p (t +ℤ pos 1) n (λ u from before. none u (omega (arith, ints)) (omega (arith, ints))))

pub sum_by-nothing : {A : Type 0} (xs : List A) → sum_by (λ x. 0) xs ≡ 0
sum_by-nothing [] = refl
sum_by-nothing (x ∷ xs) = sum_by-nothing xs

sum_by-add : {A : Type 0} (f g : A → ℕ) (xs : List A) → sum_by (λ x. f x + g x) xs ≡ sum_by f xs + sum_by g xs
sum_by-add f g [] = refl
sum_by-add f g (x ∷ xs) =
    omega (arith, sum_by-cons (λ x. f x + g x) x xs, sum_by-cons f x xs, sum_by-cons g x xs, sum_by-add f g xs)

-- where at each tick so many of the elements pass, one or none, counting them one by one comes to the same
pub sum_by-count_from : {A : Type 0} (p : A → ℤ → Bool) (q : ℤ → Bool) (xs : List A) → ((u : ℤ) → sum_by (λ x. one_if (p x u)) xs ≡ one_if (q u)) → (t : ℤ) (n : ℕ) → sum_by (λ x. count_from t n (p x)) xs ≡ count_from t n q
sum_by-count_from p q xs each t zero = sum_by-nothing xs
sum_by-count_from p q xs each t (suc n) =
    sum_by-add (λ x. one_if (p x t)) (λ x. count_from (t +ℤ pos 1) n (p x)) xs
    ∙ ap₂ ◌+◌ (each t) (sum_by-count_from p q xs each (t +ℤ pos 1) n)

int_le-above : (a b : ℤ) → b <ℤ a → int_le a b ≡ false
int_le-above a b h = grind (arith, ints)

pub int_lt-above : (a b : ℤ) → b ≤ℤ a → int_lt a b ≡ false
int_lt-above a b h = grind (arith, ints)

int_le-below : (a b : ℤ) → a ≤ℤ b → int_le a b ≡ true
int_le-below a b h = grind (arith, ints)

pub int_lt-below : (a b : ℤ) → a <ℤ b → int_lt a b ≡ true
int_lt-below a b h = grind (arith, ints)

module _ {N : Type 0} where
  pub covers-before : (s : Span N) (u : ℤ) → u <ℤ s.start → covers s u ≡ false
  covers-before s u h = and_left _ _ (int_le-above s.start u h)

  pub covers-after : (s : Span N) (u : ℤ) → s.until ≤ℤ u → covers s u ≡ false
  covers-after s u h = and_right _ _ (int_lt-above u s.until h)

  pub covers-between : (s : Span N) (u : ℤ) → s.start ≤ℤ u → u <ℤ s.until → covers s u ≡ true
  covers-between s u h k = and_from _ _ (int_le-below s.start u h) (int_lt-below u s.until k)

  -- counting through a stretch that holds the span
  pub count_from-covered : (s : Span N) (p : ℤ → Bool) (a b : ℤ) → a ≤ℤ s.start → s.start ≤ℤ s.until → s.until ≤ℤ b → count_from a (distance a b) (λ u. covers s u && p u) ≡ count_from s.start (length_of s) p
  count_from-covered s p a b starts lasts ends =
      let before = distance a s.start in
      let after = distance s.until b in
      let start : (a +ℤ pos before) ≡ s.start = add-distance a s.start starts in
      let until : (s.start +ℤ pos (length_of s)) ≡ s.until = add-distance s.start s.until lasts in
      let end : (s.until +ℤ pos after) ≡ b = add-distance s.until b ends in
      let whole : (a +ℤ pos (distance a b)) ≡ b = add-distance a b (omega (arith, ints)) in
      let parts : distance a b ≡ before + (length_of s + after) = omega (arith, ints, start, until, end, whole) in
      let here = λ (u : ℤ). covers s u && p u in
      let first = count_from-add here a before (length_of s + after) in
      let second = count_from-add here (a +ℤ pos before) (length_of s) after in
      let none_before = count_from-none here a before (λ u from under. and_left _ _ (covers-before s u (omega (arith, ints)))) in
      let none_after = count_from-none here ((a +ℤ pos before) +ℤ pos (length_of s)) after (λ u from under. and_left _ _ (covers-after s u (omega (arith, ints)))) in
      let between : count_from (a +ℤ pos before) (length_of s) here ≡ count_from s.start (length_of s) p =
      rw start (count_from-same here p s.start (length_of s) (λ u from under. ap (λ b. b && p u) (covers-between s u from (omega (arith, ints))))) in
      rw parts (omega (arith, first, second, none_before, none_after, between))

pub count_from-le : (p : ℤ → Bool) (t : ℤ) (n : ℕ) → count_from t n p ≤ n
count_from-le p t zero = omega arith
count_from-le p t (suc n) = let rest = count_from-le p (t +ℤ pos 1) n in by_test (p t) rest
  where
    by_test : (b : Bool) → count_from (t +ℤ pos 1) n p ≤ n → one_if b + count_from (t +ℤ pos 1) n p ≤ suc n
    by_test true h = omega arith
    by_test false h = omega arith

pub count_from-all : (p : ℤ → Bool) (t : ℤ) (n : ℕ) → ((u : ℤ) → t ≤ℤ u → u <ℤ (t +ℤ pos n) → p u ≡ true) → count_from t n p ≡ n
count_from-all p t zero all = refl
count_from-all p t (suc n) all = grind (arith, ints, common_steps, count_from-all p (t +ℤ pos 1) n (λ u from before. all u (omega (arith, ints)) (omega (arith, ints))))

-- through a stretch in which the test doesn't change, all pass or none
pub count_from-unbroken : (p : ℤ → Bool) (b : Bool) (u v w : ℤ) → u ≤ℤ v → v ≤ℤ w → ((x : ℤ) → u ≤ℤ x → x <ℤ v → p x ≡ b) → count_from u (distance u w) p ≡ cond b (distance u v) 0 + count_from v (distance v w) p
count_from-unbroken p b u v w first then same =
    let here = add-distance u v first in
    rw (distance-add u v w first then) (count_from-add p u (distance u v) (distance v w) ∙ rw here (ap (λ n. n + count_from v (distance v w) p) (by_test b same)))
  where
    by_test : (c : Bool) → ((x : ℤ) → u ≤ℤ x → x <ℤ v → p x ≡ c) → count_from u (distance u v) p ≡ cond c (distance u v) 0
    by_test true h = count_from-all p u (distance u v) (λ x from before. let here = add-distance u v first in h x from (omega (arith, ints, here)))
    by_test false h = count_from-none p u (distance u v) (λ x from before. let here = add-distance u v first in h x from (omega (arith, ints, here)))

-- the later time is nearer to the end
pub distance-later : (t later until : ℤ) → t <ℤ later → t <ℤ until → distance later until < distance t until
distance-later t later until h before = grind (arith, ints, common_steps)

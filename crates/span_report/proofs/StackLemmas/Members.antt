-- Which stacks a list has, and that it is no shorter than another list of which it has each stack, where none stands there twice.
use Rattle.std.specs.{List.{list_any, sum_by, Sorted.IsStrictlySortedBy}, Ordering.is_eq, declared.cmp.Ordering.{Ordering, TheVariants.{Less, Equal, Greater}}}
use Rattle.std.proofs.{Common.{◌≡◌, ℕ, zero, suc, ◌+◌, ◌<◌, ◌≤◌, Bool, true, false, ◌||◌, cond, List, [], ◌∷◌, ◌++◌, length, get_or, refl, sym, ap, subst, ◌∙◌, arith, inl, inr, ◌⊎◌, true≢false}, lemmas.{Cmp.tied_itself, List.{Folds.list_any-append, Sums.sum_by-cons}}}
use Rattle.span_report.specs.Stacks.Ticks.{Stack, same_stack, stack_order}
use Rattle.span_report.proofs.StackLemmas.{Tallies.none-below, Times.{stack_order-same, stack_order-total}}

-- one of these stacks is this one
abbrev pub Has : List Stack → Stack → Type 0
Has stacks stack = list_any (same_stack stack) stacks ≡ true

-- each of these stacks is one of those
abbrev pub HasEach : List Stack → List Stack → Type 0
HasEach those these = (stack : Stack) → Has these stack → Has those stack

pub or-either : (a b : Bool) → (a || b) ≡ true → (a ≡ true) ⊎ (b ≡ true)
or-either true b is = inl refl
or-either false b is = inr is

pub or-left : (a b : Bool) → a ≡ true → (a || b) ≡ true
or-left true b is = refl
or-left false b is = absurd (true≢false (sym is))

pub or-right : (a b : Bool) → b ≡ true → (a || b) ≡ true
or-right true b is = refl
or-right false b is = is

pub same-true : (a b : Stack) → same_stack a b ≡ true → a ≡ b
same-true a b same = by (stack_order a b) refl same
  where
    by : (r : Ordering) → stack_order a b ≡ r → is_eq r ≡ true → a ≡ b
    by Equal tie is = stack_order-same a b tie
    by Less tie is = absurd (true≢false (sym is))
    by Greater tie is = absurd (true≢false (sym is))

pub same-itself : (a : Stack) → same_stack a a ≡ true
same-itself a = ap is_eq (tied_itself stack_order-total a)

-- a list has its first stack, and those that the others have
pub has-first : (x : Stack) (xs : List Stack) → Has (x ∷ xs) x
has-first x xs = or-left (same_stack x x) (list_any (same_stack x) xs) (same-itself x)

pub has-later : (x : Stack) (xs : List Stack) → HasEach (x ∷ xs) xs
has-later x xs = λ k has. or-right (same_stack k x) (list_any (same_stack k) xs) has

pub has-none : (k : Stack) → Has [] k → ⊥
has-none k has = true≢false (sym has)

-- what has a stack and each of some others has each of them together
pub HasEach-cons : (all : List Stack) (x : Stack) (xs : List Stack) → Has all x → HasEach all xs → HasEach all (x ∷ xs)
HasEach-cons all x xs first later = λ k has. by k (or-either (same_stack k x) (list_any (same_stack k) xs) has)
  where
    by : (k : Stack) → (same_stack k x ≡ true) ⊎ Has xs k → Has all k
    by k (inl same) = subst (Has all) (sym (same-true k x same)) first
    by k (inr has) = later k has

pub HasEach-none : (all : List Stack) → HasEach all []
HasEach-none all = λ k has. absurd (has-none k has)

pub HasEach-append : (all xs ys : List Stack) → HasEach all xs → HasEach all ys → HasEach all (xs ++ ys)
HasEach-append all xs ys first second = λ k has. by k (or-either (list_any (same_stack k) xs) (list_any (same_stack k) ys) (sym (list_any-append (same_stack k) xs ys) ∙ has))
  where
    by : (k : Stack) → Has xs k ⊎ Has ys k → Has all k
    by k (inl has) = first k has
    by k (inr has) = second k has

pub has-left : (xs ys : List Stack) → HasEach (xs ++ ys) xs
has-left xs ys = λ k has. list_any-append (same_stack k) xs ys ∙ or-left (list_any (same_stack k) xs) (list_any (same_stack k) ys) has

pub has-right : (xs ys : List Stack) → HasEach (xs ++ ys) ys
has-right xs ys = λ k has. list_any-append (same_stack k) xs ys ∙ or-right (list_any (same_stack k) xs) (list_any (same_stack k) ys) has

-- a list without the first stack that is this one
abbrev without : Stack → List Stack → List Stack
without stack [] = []
without stack (x ∷ xs) = cond (same_stack stack x) xs (x ∷ without stack xs)

sum_by-without : (w : Stack → ℕ) (stack : Stack) (xs : List Stack) → Has xs stack → sum_by w xs ≡ w stack + sum_by w (without stack xs)
sum_by-without w stack [] has = absurd (has-none stack has)
sum_by-without w stack (x ∷ xs) has = by (same_stack stack x) refl has (sum_by-without w stack xs)
  where
    by : (b : Bool) → same_stack stack x ≡ b → (b || list_any (same_stack stack) xs) ≡ true → (Has xs stack → sum_by w xs ≡ w stack + sum_by w (without stack xs)) → sum_by w (x ∷ xs) ≡ w stack + sum_by w (cond b xs (x ∷ without stack xs))
    by true same has rest = sum_by-cons w x xs ∙ ap (λ s. w s + sum_by w xs) (sym (same-true stack x same))
    by false same has rest = let more = rest has in omega (arith, more, sum_by-cons w x xs, sum_by-cons w x (without stack xs))

has-without : (stack k : Stack) (xs : List Stack) → same_stack k stack ≡ false → Has xs k → Has (without stack xs) k
has-without stack k [] other has = has
has-without stack k (x ∷ xs) other has = by (same_stack stack x) refl (or-either (same_stack k x) (list_any (same_stack k) xs) has) (has-without stack k xs other)
  where
    by : (b : Bool) → same_stack stack x ≡ b → (same_stack k x ≡ true) ⊎ Has xs k → (Has xs k → Has (without stack xs) k) → Has (cond b xs (x ∷ without stack xs)) k
    by true same (inl first) rest = absurd (true≢false (sym first ∙ ap (same_stack k) (sym (same-true stack x same)) ∙ other))
    by true same (inr later) rest = later
    by false same (inl first) rest = or-left (same_stack k x) (list_any (same_stack k) (without stack xs)) first
    by false same (inr later) rest = or-right (same_stack k x) (list_any (same_stack k) (without stack xs)) (rest later)

-- no stack stands there twice
abbrev pub StandOnce : List Stack → Type 0
StandOnce [] = Unit {0}
StandOnce (x ∷ xs) = (list_any (same_stack x) xs ≡ false) × StandOnce xs

-- what different stacks come to is no more than what a list with each of them comes to
pub sum_by-le-each : (w : Stack → ℕ) (xs ys : List Stack) → StandOnce xs → HasEach ys xs → sum_by w xs ≤ sum_by w ys
sum_by-le-each w [] ys once each = omega arith
sum_by-le-each w (x ∷ xs) ys once each =
    let own : Has ys x = each x (has-first x xs) in
    let rest = sum_by-le-each w xs (without x ys) once.1 (λ k has. has-without x k ys (other k has) (each k (has-later x xs k has))) in
    omega (arith, rest, sum_by-cons w x xs, sum_by-without w x ys own)
  where
    other : (k : Stack) → Has xs k → same_stack k x ≡ false
    other k has = by (same_stack k x) refl
      where
        by : (b : Bool) → same_stack k x ≡ b → same_stack k x ≡ false
        by false is = is
        by true is = absurd (true≢false (sym has ∙ ap (λ (s : Stack). list_any (same_stack s) xs) (same-true k x is) ∙ once.0))

sum_by-one : (xs : List Stack) → sum_by (λ x. 1) xs ≡ length xs
sum_by-one [] = refl
sum_by-one (x ∷ xs) = omega (arith, sum_by-cons (λ (y : Stack). 1) x xs, sum_by-one xs)

pub length-le-each : (xs ys : List Stack) → StandOnce xs → HasEach ys xs → length xs ≤ length ys
length-le-each xs ys once each = omega (arith, sum_by-le-each (λ x. 1) xs ys once each, sum_by-one xs, sum_by-one ys)

-- a stack that passes stands somewhere
pub any-index : (p : Stack → Bool) (xs : List Stack) → list_any p xs ≡ true → (k : ℕ) × (k < length xs) × (p (get_or xs k []) ≡ true)
any-index p [] has = absurd (true≢false (sym has))
any-index p (x ∷ xs) has = by (or-either (p x) (list_any p xs) has) (λ later. any-index p xs later)
  where
    by : (p x ≡ true) ⊎ (list_any p xs ≡ true) → (list_any p xs ≡ true → (k : ℕ) × (k < length xs) × (p (get_or xs k []) ≡ true)) → (k : ℕ) × (k < suc (length xs)) × (p (get_or (x ∷ xs) k []) ≡ true)
    by (inl first) rest = (0, omega arith, first)
    by (inr later) rest = let at = rest later in (suc at.0, omega (arith, at.1), at.2)

pub has-at : (xs : List Stack) (k : ℕ) → k < length xs → Has xs (get_or xs k [])
has-at [] k within = absurd (omega (arith, within))
has-at (x ∷ xs) zero within = has-first x xs
has-at (x ∷ xs) (suc k) within = has-later x xs (get_or xs k []) (has-at xs k (omega (arith, within)))

pub StandOnce-sorted : (xs : List Stack) → IsStrictlySortedBy stack_order xs → StandOnce xs
unfolding IsStrictlySortedBy
StandOnce-sorted [] sorted = tt
StandOnce-sorted (x ∷ xs) sorted = (none-below stack_order-total stack_order-same x xs sorted.0, StandOnce-sorted xs sorted.1)

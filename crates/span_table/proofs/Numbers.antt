-- Numbers: which are among others, and sums of which each is the same.
use Rattle.std.specs.{Cmp.Lexicographic.bytes_decides, List.list_all, Prelude.nat_lt, Str.bytes_eq}
use Rattle.std.proofs.{Common.{◌≡◌, ◌^◌, ◌<◌, ◌&&◌, ◌||◌, Bool, true, false, List, [], ◌∷◌, Some, refl, sym, ap, ap₂, ◌∙◌}, lemmas.Bool.{and_parts, ltb-true}}
use Rattle.span_table.specs.{Adding.AreAmong, Numbers.{all_numbers, are_same, has_number, number_name, number_named}, Sums.{fit, number_by, only, with_number}, declared.{number.Number.{Number, TheVariants.SelfTime}, sums.Sums.Sums}}

-- what is called as a number is it
pub number-called : (n : Number) → number_named (number_name n) ≡ Some n
number-called SelfTime = refl
number-called n = refl

-- what is called the same is the same number
pub number_name-same : (m n : Number) → number_name m ≡ number_name n → m ≡ n
number_name-same m n e = let same : Some m ≡ Some n = sym (number-called m) ∙ ap number_named e ∙ number-called n in cc

-- what is true of all of some numbers is true of each that is among them
pub list_all-among : (is : Number → Bool) (all : List Number) (n : Number) → list_all is all ≡ true → has_number all n ≡ true → is n ≡ true
list_all-among is [] n each has = cc
list_all-among is (m ∷ all) n each has = by (bytes_eq (number_name m) (number_name n)) refl (list_all-among is all n both.1) has
  where
    both : (is m ≡ true) × (list_all is all ≡ true)
    both = and_parts (is m) (list_all is all) each

    by : (b : Bool) → bytes_eq (number_name m) (number_name n) ≡ b → (has_number all n ≡ true → is n ≡ true) → (b || has_number all n) ≡ true → is n ≡ true
    by true e later h = ap is (sym (number_name-same m n ((bytes_decides (number_name m) (number_name n)).0 e))) ∙ both.0
    by false e later h = later h

-- each number is among all
pub has_number-all : (n : Number) → has_number all_numbers n ≡ true
has_number-all SelfTime = refl
has_number-all n = refl

-- a number is among some that begin with it
pub has_number-first : (n : Number) (numbers : List Number) → has_number (n ∷ numbers) n ≡ true
has_number-first n numbers = ap (λ b. b || has_number numbers n) ((bytes_decides (number_name n) (number_name n)).1 refl)

-- and among some of which the others have it
has_number-later : (m n : Number) (numbers : List Number) → has_number numbers n ≡ true → has_number (m ∷ numbers) n ≡ true
has_number-later m n numbers has = by (bytes_eq (number_name m) (number_name n))
  where
    by : (b : Bool) → (b || has_number numbers n) ≡ true
    by true = refl
    by false = has

-- where the numbers of a list are the same in both, both are the same with these alone
pub only-same : (numbers : List Number) (s t : Sums) → ((n : Number) → has_number numbers n ≡ true → number_by n s ≡ number_by n t) → only numbers s ≡ only numbers t
only-same [] s t same = refl
only-same (n ∷ numbers) s t same =
    ap₂ (with_number n) (same n (has_number-first n numbers)) (only-same numbers s t (λ m has. same m (has_number-later n m numbers has)))

-- sums of which each number is the same are the same
pub same_numbers : (a b : Sums) → ((n : Number) → number_by n a ≡ number_by n b) → a ≡ b
same_numbers a b same = only-same all_numbers a b (λ n has. same n)

-- numbers are among themselves
pub AreAmong-self : (numbers : List Number) → AreAmong numbers numbers
AreAmong-self numbers = each numbers (λ n has. has)
  where
    each : (some : List Number) → ((n : Number) → has_number some n ≡ true → has_number numbers n ≡ true) → AreAmong some numbers
    each [] known = refl
    each (m ∷ some) known = ap₂ (λ a b. a && b) (known m (has_number-first m some)) (each some (λ n has. known n (has_number-later m n some has)))

-- what is among numbers that are among others is among these
pub AreAmong-trans : (few numbers all : List Number) → AreAmong few numbers → AreAmong numbers all → AreAmong few all
AreAmong-trans [] numbers all one other = refl
AreAmong-trans (n ∷ few) numbers all one other =
    let both = and_parts (has_number numbers n) (list_all (has_number numbers) few) one in
    ap₂ (λ a b. a && b) (list_all-among (has_number all) numbers n other both.0) (AreAmong-trans few numbers all both.1 other)

-- lists of which each number is the same
pub are_same-same : (numbers others : List Number) → are_same numbers others ≡ true → numbers ≡ others
are_same-same [] [] h = refl
are_same-same [] (n ∷ others) h = cc
are_same-same (m ∷ numbers) [] h = cc
are_same-same (m ∷ numbers) (n ∷ others) h =
    let both = and_parts (bytes_eq (number_name m) (number_name n)) (are_same numbers others) h in
    ap₂ (λ (x : Number) l. x ∷ l) (number_name-same m n ((bytes_decides (number_name m) (number_name n)).0 both.0)) (are_same-same numbers others both.1)

pub are_same-own : (numbers : List Number) → are_same numbers numbers ≡ true
are_same-own [] = refl
are_same-own (n ∷ numbers) = ap₂ (λ a b. a && b) ((bytes_decides (number_name n) (number_name n)).1 refl) (are_same-own numbers)

-- each number of sums that fit does
pub number_by-small : (n : Number) (sums : Sums) → fit sums ≡ true → number_by n sums < 2 ^ 64
number_by-small n sums h = ltb-true _ _ (list_all-among (λ number. nat_lt (number_by number sums) (2 ^ 64)) all_numbers n h (has_number-all n))

-- Sums with some of their numbers alone.
use Rattle.std.specs.{Cmp.Lexicographic.bytes_decides, List.list_any, Ordering.is_eq, Prelude.{filter, not}, Str.bytes_eq, declared.cmp.Ordering.Ordering}
use Rattle.std.proofs.{Common.{◌≡◌, ℕ, ◌&&◌, ◌||◌, Bool, true, false, cond, List, [], ◌∷◌, map, refl, sym, ap, ap₂, subst, ◌∙◌}, lemmas.Bool.or_parts}
use Rattle.span_keyed_tracks.proofs.{Keyed.has_key, SameKeys.step_keys}
use Rattle.span_table.specs.{Keyed, steps_at, Adding.AreAmong, Keys.key_cmp, Numbers.{all_numbers, asks_each, has_number, number_name}, Sums.{no_sums, number_by, only, with_number, with_sums}, Tables.{KeyedSums, sums_together, with_only}, declared.{number.Number.{Number, TheVariants.{SelfTime}}, sums.Sums.Sums}}
use Rattle.span_table.proofs.{Alike.AddUpAlike, Numbers.{AreAmong-self, list_all-among, number_name-same, only-same}}

-- a number that is put has its value
number_by-put : (n : Number) (value : ℕ) (s : Sums) → number_by n (with_number n value s) ≡ value
number_by-put SelfTime value s = refl
number_by-put n value s = refl

-- putting a number of some sums leaves what is theirs
number_by-kept : (m n : Number) (s t : Sums) → number_by n t ≡ number_by n s → number_by n (with_number m (number_by m s) t) ≡ number_by n s
number_by-kept SelfTime SelfTime s t same = refl
number_by-kept m n s t same = each n same
  where
    each : (k : Number) → number_by k t ≡ number_by k s → number_by k (with_number m (number_by m s) t) ≡ number_by k s
    each SelfTime h = cc
    each k h = cc

-- a number of a list is there with these alone
pub number_by-only : (numbers : List Number) (n : Number) (s : Sums) → has_number numbers n ≡ true → number_by n (only numbers s) ≡ number_by n s
number_by-only [] n s has = cc
number_by-only (m ∷ numbers) n s has = by (bytes_eq (number_name m) (number_name n)) refl (number_by-only numbers n s) has
  where
    by : (b : Bool) → bytes_eq (number_name m) (number_name n) ≡ b → (has_number numbers n ≡ true → number_by n (only numbers s) ≡ number_by n s) → (b || has_number numbers n) ≡ true → number_by n (only (m ∷ numbers) s) ≡ number_by n s
    by true e later h =
        subst (λ (k : Number). number_by k (with_number m (number_by m s) (only numbers s)) ≡ number_by k s) (number_name-same m n ((bytes_decides (number_name m) (number_name n)).0 e))
        (number_by-put m (number_by m s) (only numbers s))
    by false e later h = number_by-kept m n s (only numbers s) (later h)

-- of numbers alone some of them alone
pub only-among : (numbers all : List Number) (s : Sums) → AreAmong numbers all → only numbers (only all s) ≡ only numbers s
only-among numbers all s are = only-same numbers (only all s) s (λ n has. number_by-only all n s (list_all-among (has_number all) numbers n are has))

-- the numbers alone of what has no others are all of it
pub only-again : (numbers : List Number) (s : Sums) → only numbers (only numbers s) ≡ only numbers s
only-again numbers s = only-among numbers numbers s (AreAmong-self numbers)

-- those of two that are added are those of each, added
pub only-with_sums : (numbers : List Number) (a b : Sums) → only numbers (with_sums a b) ≡ with_sums (only numbers a) (only numbers b)
only-with_sums [] a b = refl
only-with_sums (n ∷ numbers) a b =
    ap (with_number n (number_by n (with_sums a b))) (only-with_sums numbers a b) ∙ put n (only numbers a) (only numbers b)
  where
    put : (n : Number) (x y : Sums) → with_number n (number_by n (with_sums a b)) (with_sums x y) ≡ with_sums (with_number n (number_by n a) x) (with_number n (number_by n b) y)
    put SelfTime x y = refl
    put n x y = refl

pub only-together : (numbers : List Number) (sums : List Sums) → only numbers (sums_together sums) ≡ sums_together (map (only numbers) sums)
only-together [] [] = refl
only-together (n ∷ numbers) [] = ap (with_number n (number_by n no_sums)) (only-together numbers []) ∙ none n
  where
    none : (n : Number) → with_number n (number_by n no_sums) no_sums ≡ no_sums
    none SelfTime = refl
    none n = refl
only-together numbers (s ∷ sums) = only-with_sums numbers s (sums_together sums) ∙ ap (with_sums (only numbers s)) (only-together numbers sums)

-- the numbers that the row of a name tells
abbrev pub plain_numbers : List Number
plain_numbers = filter (λ number. not (asks_each number)) all_numbers

-- without others nothing is lost by leaving them out
pub only-plain : (numbers : List Number) (s : Sums) → list_any asks_each numbers ≡ false → only numbers (only plain_numbers s) ≡ only numbers s
only-plain numbers s none = only-among numbers plain_numbers s (each numbers none)
  where
    plain : (n : Number) → asks_each n ≡ false → has_number plain_numbers n ≡ true
    plain SelfTime asks = refl
    plain n asks = cc

    each : (numbers : List Number) → list_any asks_each numbers ≡ false → AreAmong numbers plain_numbers
    each [] none = refl
    each (n ∷ numbers) none = let both = or_parts (asks_each n) (list_any asks_each numbers) none in ap₂ (λ a b. a && b) (plain n both.0) (each numbers both.1)

-- steps with some numbers alone come to those of what all come to
pub steps-only : {K : Type 0} (cmp : K → K → Ordering) (numbers : List Number) (k : K) (es : List (Keyed K Sums)) → steps_at cmp k (map (with_only numbers) es) ≡ map (only numbers) (steps_at cmp k es)
steps-only cmp numbers k [] = refl
steps-only {K = K} cmp numbers k (e ∷ es) = by (is_eq (cmp e.key k)) (steps-only cmp numbers k es)
  where
    by : (b : Bool) → steps_at cmp k (map (with_only numbers) es) ≡ map (only numbers) (steps_at cmp k es) →
        map (λ (x : Keyed K Sums). x.step) (cond b (with_only numbers e ∷ filter (λ x. is_eq (cmp x.key k)) (map (with_only numbers) es)) (filter (λ x. is_eq (cmp x.key k)) (map (with_only numbers) es)))
        ≡ map (only numbers) (map (λ (x : Keyed K Sums). x.step) (cond b (e ∷ filter (λ x. is_eq (cmp x.key k)) es) (filter (λ x. is_eq (cmp x.key k)) es)))
    by true rest = ap (λ l. only numbers e.step ∷ l) rest
    by false rest = rest

keys-only : {K : Type 0} (numbers : List Number) (es : List (Keyed K Sums)) → step_keys (map (with_only numbers) es) ≡ step_keys es
keys-only numbers [] = refl
keys-only numbers (e ∷ es) = ap (λ l. e.key ∷ l) (keys-only numbers es)

-- what adds up alike does so with some numbers alone
pub AddUpAlike-only : (numbers : List Number) (es fs : KeyedSums) → AddUpAlike es fs → AddUpAlike (map (with_only numbers) es) (map (with_only numbers) fs)
AddUpAlike-only numbers es fs alike = record {
  there = λ k h. ap (has_key key_cmp k) (keys-only numbers fs) ∙ alike.there k (ap (has_key key_cmp k) (sym (keys-only numbers es)) ∙ h);
  back = λ k h. ap (has_key key_cmp k) (keys-only numbers es) ∙ alike.back k (ap (has_key key_cmp k) (sym (keys-only numbers fs)) ∙ h);
  sums = λ k.
      ap sums_together (steps-only key_cmp numbers k es) ∙ sym (only-together numbers (steps_at key_cmp k es)) ∙ ap (only numbers) (alike.sums k)
      ∙ only-together numbers (steps_at key_cmp k fs) ∙ sym (ap sums_together (steps-only key_cmp numbers k fs));
}

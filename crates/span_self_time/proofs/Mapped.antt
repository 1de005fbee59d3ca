-- Spans in place of others: where they cover the same ticks, the busy time stays, and where they rank alike too, the self times.
use Rattle.std.proofs.Common.{arith}
use Rattle.std.specs.{Int.{int_min, int_max}, List.{list_any, sum_by}, Prelude.filter}
use Rattle.std.proofs.{Common.{◌≡◌, ℕ, ◌+◌, List, [], ◌∷◌, map, Bool, not, ◌&&◌, ◌||◌, ℤ, int_lt, int_le, refl, ap, ap₂, ◌∙◌}, lemmas.{Int.ints, Grind.common_steps, List.Folds.fold-map}}
use Rattle.span_self_time.specs.{distance, Spans.{Span, covers, outranks, is_outranked, is_covered, earliest, latest, length_of, count_from, self_time, busy_time}}
use Rattle.span_self_time.proofs.Counts.{count_from-same}

list_any-map : {A B : Type 0} (p : B → Bool) (f : A → B) (xs : List A) → list_any p (map f xs) ≡ list_any (λ x. p (f x)) xs
list_any-map p f [] = refl
list_any-map p f (x ∷ xs) = ap (λ b. p (f x) || b) (list_any-map p f xs)

list_any-same : {A : Type 0} (p q : A → Bool) → ((x : A) → p x ≡ q x) → (xs : List A) → list_any p xs ≡ list_any q xs
list_any-same p q same [] = refl
list_any-same p q same (x ∷ xs) = ap₂ (λ a b. a || b) (same x) (list_any-same p q same xs)

-- a selection after a map is a map after a selection
pub filter-map : {A B : Type 0} (p : B → Bool) (f : A → B) (xs : List A) → filter p (map f xs) ≡ map f (filter (λ x. p (f x)) xs)
filter-map p f [] = refl
filter-map p f (x ∷ xs) = grind (arith, ints, common_steps, filter-map p f xs)

-- a sum after a map
pub sum_by-map : {A B : Type 0} (g : B → ℕ) (f : A → B) (xs : List A) → sum_by g (map f xs) ≡ sum_by (λ x. g (f x)) xs
sum_by-map g f xs = fold-map (λ n y. n + g y) f 0 xs

-- spans that start and end as those that they stand for
module _ {N M : Type 0} (f : Span N → Span M) (starts : (s : Span N) → (f s).start ≡ s.start) (ends : (s : Span N) → (f s).until ≡ s.until) where
  covers-map : (s : Span N) (u : ℤ) → covers (f s) u ≡ covers s u
  covers-map s u = ap₂ (λ start until. int_le start u && int_lt u until) (starts s) (ends s)

  length_of-map : (s : Span N) → length_of (f s) ≡ length_of s
  length_of-map s = ap₂ distance (starts s) (ends s)

  pub earliest-map : (spans : List (Span N)) → earliest (map f spans) ≡ earliest spans
  earliest-map [] = refl
  earliest-map (s ∷ spans) = ap₂ int_min (starts s) (earliest-map spans)

  pub latest-map : (spans : List (Span N)) → latest (map f spans) ≡ latest spans
  latest-map [] = refl
  latest-map (s ∷ spans) = ap₂ int_max (ends s) (latest-map spans)

  is_covered-map : (spans : List (Span N)) (u : ℤ) → is_covered (map f spans) u ≡ is_covered spans u
  is_covered-map spans u =
      list_any-map (λ s. covers s u) f spans ∙ list_any-same (λ s. covers (f s) u) (λ s. covers s u) (λ s. covers-map s u) spans

  pub busy_time-map : (spans : List (Span N)) → busy_time (map f spans) ≡ busy_time spans
  busy_time-map spans = grind (arith, ints, common_steps, earliest-map, latest-map, count_from-same, is_covered-map)

  -- and rank alike
  module _ (ranks : (a b : Span N) → outranks (f a) (f b) ≡ outranks a b) where
    is_outranked-map : (spans : List (Span N)) (s : Span N) (u : ℤ) → is_outranked (map f spans) (f s) u ≡ is_outranked spans s u
    is_outranked-map spans s u =
        list_any-map (λ a. covers a u && outranks a (f s)) f spans
        ∙ list_any-same (λ a. covers (f a) u && outranks (f a) (f s)) (λ a. covers a u && outranks a s) (λ a. ap₂ (λ b c. b && c) (covers-map a u) (ranks a s)) spans

    pub self_time-map : (spans : List (Span N)) (s : Span N) → self_time (map f spans) (f s) ≡ self_time spans s
    self_time-map spans s =
        ap₂ (λ t n. count_from t n (λ u. not (is_outranked (map f spans) (f s) u))) (starts s) (length_of-map s)
        ∙ count_from-same (λ u. not (is_outranked (map f spans) (f s) u)) (λ u. not (is_outranked spans s u)) s.start (length_of s) (λ u from before. ap not (is_outranked-map spans s u))

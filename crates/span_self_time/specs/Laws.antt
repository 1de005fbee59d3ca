-- The laws of self and busy times.
use Rattle.std.specs.{List.list_any, Prelude.{◌≡◌, ℕ, ◌+◌, ◌≢◌, ◌⊎◌, Bool, not, ◌&&◌, ◌≤ℤ◌, int_le, List, [], ◌∷◌, filter, sum_by, All}}
use Rattle.span_self_time.specs.Spans.{Span, length_of, outranks, self_time, busy_time}

-- no later span has this position
abbrev pub IsApart : {N : Type 0} → ℕ → List (Span N) → Type 0
IsApart at [] = Unit {0}
IsApart at (s ∷ spans) = (s.at ≢ at) × IsApart at spans

-- the positions differ, and no span ends before it starts
abbrev pub AreSpans : {N : Type 0} → List (Span N) → Type 0
AreSpans [] = Unit {0}
AreSpans (s ∷ spans) = (s.start ≤ℤ s.until) × IsApart s.at spans × AreSpans spans

-- the self times of all spans add up to the busy time
abbrev pub SelfTimesAddUpToBusy : Type 0 → Type 0
SelfTimesAddUpToBusy N = (spans : List (Span N)) → AreSpans spans → sum_by (λ s. self_time spans s) spans ≡ busy_time spans

module _ {N : Type 0} where
  -- a lies within b
  abbrev pub IsWithin : Span N → Span N → Type 0
  IsWithin a b = (b.start ≤ℤ a.start) × (a.until ≤ℤ b.until)

  -- one of the two lies within the other, or one ends before the other starts
  abbrev pub NestOrAreDisjoint : Span N → Span N → Type 0
  NestOrAreDisjoint a b = (IsWithin a b ⊎ IsWithin b a) ⊎ ((a.until ≤ℤ b.start) ⊎ (b.until ≤ℤ a.start))

  -- any two of the spans
  abbrev pub AreNested : List (Span N) → Type 0
  AreNested spans = All (λ a. All (λ b. NestOrAreDisjoint a b) spans) spans

  -- a child lies within its parent and ranks above it
  abbrev pub is_child : Span N → Span N → Bool
  is_child child parent = (int_le parent.start child.start && int_le child.until parent.until) && outranks child parent

  -- the children that are no children of another child
  abbrev pub is_direct_child : List (Span N) → Span N → Span N → Bool
  is_direct_child spans child parent = is_child child parent && not (list_any (λ other. is_child other parent && is_child child other) spans)

  abbrev pub direct_children : List (Span N) → Span N → List (Span N)
  direct_children spans parent = filter (λ s. is_direct_child spans s parent) spans

-- where spans nest or are disjoint, the self time and the lengths of the direct children are together the length
abbrev pub SelfTimesAreLeftByChildren : Type 0 → Type 0
SelfTimesAreLeftByChildren N = (spans : List (Span N)) → AreSpans spans → AreNested spans
    → All (λ s. self_time spans s + sum_by (λ child. length_of child) (direct_children spans s) ≡ length_of s) spans

-- The stacks of a thread: which of its spans cover each tick, the lowest rank first.
use Rattle.std.specs.{Cmp.Lexicographic.slice_cmp, Ordering.eq_by_cmp, Prelude.{ℕ, zero, suc, Bool, true, false, ℤ, pos, ◌+ℤ◌, if◌then◌else◌, List, [], ◌∷◌, map, filter, count_by}, declared.cmp.Ordering.{Ordering, TheVariants.{Less, Equal, Greater}}}
use Rattle.span_report.specs.{Bytes, text_cmp, distance, Span, covers, earliest, latest, outranks, ascending}

-- the times from t on, one for each of n ticks
abbrev pub ticks : ℤ → ℕ → List ℤ
ticks t zero = []
ticks t (suc n) = t ∷ ticks (t +ℤ pos 1) n

-- a stack has a frame
abbrev pub has_frames : {N : Type 0} → List N → Bool
has_frames [] = false
has_frames (frame ∷ frames) = true

module _ {N : Type 0} where
  -- one span before another that ranks above it
  abbrev pub rank_order : Span N → Span N → Ordering
  rank_order a b = if outranks b a then Less else if outranks a b then Greater else Equal

  -- the spans in ascending rank
  abbrev pub ranked : List (Span N) → List (Span N)
  ranked spans = ascending rank_order spans

  -- the names of those of the spans that cover u, in the order of the spans
  abbrev pub names_at : List (Span N) → ℤ → List N
  names_at spans u = map (λ s. s.name) (filter (λ s. covers s u) spans)

  -- the stack of a tick: the names of the spans that cover it, in ascending rank
  abbrev pub stack_at : List (Span N) → ℤ → List N
  stack_at spans u = names_at (ranked spans) u

  -- the stacks of all ticks, one after the other, where there is any frame
  abbrev pub stacks_of : List (Span N) → List (List N)
  stacks_of spans = filter has_frames (map (stack_at spans) (ticks (earliest spans) (distance (earliest spans) (latest spans))))

-- a stack of names
abbrev pub Stack : Type 0
Stack = List Bytes

-- by the bytes of their names; a stack before those that it begins
abbrev pub stack_order : Stack → Stack → Ordering
stack_order = slice_cmp text_cmp

abbrev pub same_stack : Stack → Stack → Bool
same_stack a b = eq_by_cmp stack_order a b

-- a stack, and how many ticks have it
pub record Folded : Type 0 where
  pub stack : Stack
  pub time : ℕ

-- how many of these are the stack
abbrev pub folded : List Stack → Stack → Folded
folded stacks stack = record { stack = stack; time = count_by (same_stack stack) stacks }

-- each stack of the spans once, in order, with how many ticks have it
abbrev pub folded_stacks : List (Span Bytes) → List Folded
folded_stacks spans = map (folded (stacks_of spans)) (ascending stack_order (stacks_of spans))

-- How many names the stacks of spans have, and how many frames, where what stacks begin with alike counts once.
use Rattle.std.specs.Prelude.{ℕ, List, [], ◌∷◌, length, map, flat_map, sum_by}
use Rattle.span_report.specs.{Bytes, Span, ascending, Stacks.Ticks.{Folded, Stack, stack_order, stacks_of}}

-- the names of stacks, as many of each stack as it is deep
abbrev pub names_in : List Folded → ℕ
names_in stacks = sum_by (λ folded. length folded.stack) stacks

-- the stacks that a stack begins with, itself the last
abbrev pub beginnings : Stack → List Stack
beginnings [] = []
beginnings (name ∷ names) = (name ∷ []) ∷ map (λ beginning. name ∷ beginning) (beginnings names)

-- the frames of spans: each stack that one of theirs begins with, once
abbrev pub frames_of : List (Span Bytes) → List Stack
frames_of spans = ascending stack_order (flat_map beginnings (stacks_of spans))

abbrev pub frame_count : List (Span Bytes) → ℕ
frame_count spans = length (frames_of spans)

-- the most names that the folded stacks of a run may have
abbrev pub most_names : ℕ
most_names = 67108864

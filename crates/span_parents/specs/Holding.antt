-- Which spans of a thread hold a span. One holds another that lies within it and ranks above it.
use Rattle.std.specs.{List.list_any, Option.option_and_then, Prelude.{ℕ, Bool, not, if◌then◌else◌, List, [], ◌∷◌, Option, Some, None, filter, map, slice_get}}
use Rattle.span_parents.specs.{Bytes, same_text, Span, Timed, is_child, named, outranks}

-- the spans that hold s
abbrev pub holders : {N : Type 0} → List (Span N) → Span N → List (Span N)
holders spans s = filter (λ t. is_child s t) spans

-- of two spans, the one that ranks above the other
abbrev pub higher : {N : Type 0} → Span N → Option (Span N) → Span N
higher t None = t
higher t (Some other) = if outranks t other then t else other

-- the one of these spans that ranks above all others
abbrev pub highest : {N : Type 0} → List (Span N) → Option (Span N)
highest [] = None
highest (t ∷ spans) = Some (higher t (highest spans))

abbrev pub parent_of : {N : Type 0} → List (Span N) → Span N → Option (Span N)
parent_of spans s = highest (holders spans s)

-- no span of its name holds it
abbrev pub is_outer : List (Span Bytes) → Span Bytes → Bool
is_outer spans s = not (list_any (λ t. is_child s t) (named same_text s.name spans))

-- the spans at these places
abbrev pub spans_at : {N : Type 0} → List (Span N) → List (Option ℕ) → List (Option (Span N))
spans_at spans places = map (λ place. option_and_then (slice_get spans) place) places

-- without their self times
abbrev pub spans_of : List Timed → List (Span Bytes)
spans_of timed = map (λ (t : Timed). t.span) timed

-- What a walk counts, and stretches of time in which nothing changes.
use Rattle.std.specs.Prelude.{◌≡◌, ℕ, ℤ, ◌≤ℤ◌, ◌<ℤ◌, Bool, not, List}
use Rattle.span_closed_spans.specs.{Span, covers, is_outranked, is_covered, span_of, declared.walk.Counted.{Counted, TheVariants.{OwnOf, Covered}}}

-- from u to before v the span covers all or nothing
abbrev pub IsUnbroken : {N : Type 0} → Span N → ℤ → ℤ → Type 0
IsUnbroken s u v = (w : ℤ) → u ≤ℤ w → w <ℤ v → covers s w ≡ covers s u

-- whether a tick counts
abbrev pub counts : List (Span ℕ) → Counted → ℤ → Bool
counts spans (OwnOf s) u = not (is_outranked spans (span_of s.now) u)
counts spans Covered u = is_covered spans u

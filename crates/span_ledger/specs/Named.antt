-- The closed spans of a thread, each with the text of its name.
use Rattle.std.specs.{Option.option_map, Prelude.{ℕ, ◌≤ℤ◌, List, Option, All, filter_map, slice_get}}
use Rattle.span_ledger.specs.{least_time, Bytes, greatest_until, AreSpans, Span, Numbered.renamed_span}

-- the span lies between the least and the greatest time that a thread can have seen
abbrev pub IsTimely : Span Bytes → Type 0
IsTimely s = (least_time ≤ℤ s.start) × (s.until ≤ℤ greatest_until)

-- what holds of the closed spans of a thread
pub record AreThreadSpans (spans : List (Span Bytes)) : Type 0 where
  pub are : AreSpans spans
  pub in_time : All IsTimely spans

-- the span with the text of its name in place of the number, if the number has one
abbrev pub named_span : List Bytes → Span ℕ → Option (Span Bytes)
named_span names s = option_map (λ text. renamed_span (λ number. text) s) (slice_get names s.name)

abbrev pub named_spans : List Bytes → List (Span ℕ) → List (Span Bytes)
named_spans names spans = filter_map (named_span names) spans

-- The closed spans that a track keeps.
use Rattle.std.specs.Prelude.{◌≢◌, ℕ, ◌+◌, ◌<◌, ◌^◌, ℤ, pos, ◌≤ℤ◌, List, length, All}
use Rattle.span_self_time.specs.{least_time, Laws.AreSpans, Spans.Span, declared.span.ClosedSpan.ClosedSpan}

-- a closed span of the program, as a span
abbrev pub span_of : ClosedSpan → Span ℕ
span_of s = record { name = s.name; start = s.start; until = s.until; at = s.at; args = s.args }

-- the greatest time and the greatest length of an event together
abbrev pub greatest_until : ℤ
greatest_until = pos 9223372036854775806

abbrev pub IsInTime : Span ℕ → Type 0
IsInTime s = (least_time ≤ℤ s.start) × (s.until ≤ℤ greatest_until)

-- what holds of the closed spans of a track
pub record AreClosed (spans : List (Span ℕ)) : Type 0 where
  pub are : AreSpans spans
  pub in_time : All IsInTime spans
  pub few : length spans < 2 ^ 32

-- these spans can be added to closed ones: their positions are others, and together they are few
pub record CanJoin (spans more : List (Span ℕ)) : Type 0 where
  pub are : AreSpans more
  pub in_time : All IsInTime more
  pub apart : All (λ s. All (λ x. x.at ≢ s.at) spans) more
  pub few : length spans + length more < 2 ^ 32

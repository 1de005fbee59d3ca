-- How what is kept of the asynchronous spans of one key changes, and how large it gets.
use Rattle.std.specs.Prelude.{◌≡◌, ℕ, ◌+◌, ◌*◌, ◌<◌, ◌≤◌, ◌^◌, max, ℤ, [], ◌∷◌, ◌++◌, length, All, Some}
use Rattle.span_keyed_tracks.specs.{IsTime, greatest_time, distance, Async.AsyncSpans, Last.{last_of, without_last}}

-- times are in range, so that lengths and their sum are bounded, and the other numbers are numbers of 32 bits
pub record AreBounded (spans : AsyncSpans) : Type 0 where
  pub in_time : All IsTime spans.opened
  pub few : length spans.opened + spans.closed + spans.points < 2 ^ 32
  pub short : spans.total ≤ spans.closed * (2 * greatest_time)
  pub each : spans.longest ≤ 2 * greatest_time

-- one more begin is open
abbrev pub with_begin : AsyncSpans → ℤ → AsyncSpans
with_begin spans ts = record { opened = spans.opened ++ ts ∷ []; closed = spans.closed; total = spans.total; longest = spans.longest; points = spans.points }

-- the last begin is matched
abbrev pub with_end : AsyncSpans → ℤ → ℤ → AsyncSpans
with_end spans begin ts = record { opened = without_last spans.opened; closed = spans.closed + 1; total = spans.total + distance begin ts; longest = max spans.longest (distance begin ts); points = spans.points }

-- an end matches the last begin, and closes a span of this length
pub record EndsLast (old : AsyncSpans) (ts : ℤ) (length_of : ℕ) (new : AsyncSpans) : Type 0 where
  pub begin : ℤ
  pub matched : last_of old.opened ≡ Some begin
  pub lasts : length_of ≡ distance begin ts
  pub becomes : new ≡ with_end old begin ts

-- there is one more point
abbrev pub with_point : AsyncSpans → AsyncSpans
with_point spans = record { opened = spans.opened; closed = spans.closed; total = spans.total; longest = spans.longest; points = spans.points + 1 }

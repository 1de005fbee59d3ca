-- What holds of what a track keeps.
use Rattle.std.specs.Prelude.{ℕ, ◌+◌, ◌<◌, ◌≢◌, ◌^◌, ℤ, ◌≤ℤ◌, List, [], ◌∷◌, length, All, Option, Some, None}
use Rattle.span_track.specs.{least_time, Nesting.Begin, Thread.{ThreadSpans, IsSealTime}, declared.thread.OpenSpan.OpenSpan}

-- an open span of the program, as a begin
abbrev pub begin_of : OpenSpan → Begin ℕ
begin_of o = record { name = o.name; ts = o.ts; at = o.at; args = o.args }

-- the time is not after the last
abbrev pub IsUpTo : ℤ → Option ℤ → Type 0
IsUpTo ts None = ⊥
IsUpTo ts (Some last) = ts ≤ℤ last

-- the positions rise
abbrev pub AreRising : List (Begin ℕ) → Type 0
AreRising [] = Unit {0}
AreRising (b ∷ bs) = All (λ c. b.at < c.at) bs × AreRising bs

-- the time, if there is one, is one that a thread can have seen
abbrev pub IsSeen : Option ℤ → Type 0
IsSeen None = Unit {0}
IsSeen (Some time) = IsSealTime time

-- what holds of the open spans of a track beside its closed ones, and of its latest time
pub record IsSound (t : ThreadSpans ℕ) : Type 0 where
  pub from : All (λ b. least_time ≤ℤ b.ts) t.opened
  pub up_to : All (λ b. IsUpTo b.ts t.last) t.opened
  pub apart : All (λ b. All (λ s. s.at ≢ b.at) t.closed) t.opened
  pub rising : AreRising t.opened
  pub few : length t.opened + length t.closed < 2 ^ 32
  pub seen : IsSeen t.latest

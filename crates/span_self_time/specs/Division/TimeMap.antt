-- What holds of a map of the stretches of time while a new span takes what is its own.
pub mod Stretches
pub mod Ties
use Rattle.std.specs.Prelude.{◌≡◌, ◌≢◌, ◌⊎◌, ℕ, nat_eq, false, ℤ, pos, ◌-ℤ◌, ◌≤ℤ◌, ◌<ℤ◌, Some, IsSome}
use Rattle.indexmap.specs.IndexMap.{get}
use Rattle.span_self_time.specs.{Closed.IsInTime, Division.{Owners, claims, taken_to, IsNew, AreSettled, OwnTimes.AreTimes, TimeMap.{Stretches.{at, IsDivided, IsEnd, AreWhole}, Ties.AreBarred}}, Spans.Span, declared.division.time_map.TimeMap.TimeMap}

-- the stretches and the running times are those of these owners
pub record IsTimeMap (owners : Owners) (s : TimeMap) : Type 0 where
  pub divided : IsDivided owners (at s.stretches)
  pub whole : AreWhole owners (at s.stretches)
  pub times : AreTimes owners s.times
  pub barred : AreBarred owners s.ties

-- a span that can take its own
pub record IsEntrant (s : Span ℕ) (owners : Owners) : Type 0 where
  pub new : IsNew s owners
  pub settled : AreSettled owners
  pub in_time : IsInTime s
  pub lasts : s.start <ℤ s.until

-- a new span has taken what is its own before t
pub record IsTaking (s : Span ℕ) (t : ℤ) (time_map : TimeMap) (owners : Owners) : Type 0 where
  pub from : s.start ≤ℤ t
  pub divided : IsDivided (taken_to s t owners) (at time_map.stretches)
  pub whole : (u : ℤ) (o : Span ℕ) → IsEnd (at time_map.stretches) u o → u ≢ s.start → u ≢ s.until → taken_to s t owners u ≢ Some o
  pub until : IsSome (at time_map.stretches s.until)
  pub edge : IsSome (at time_map.stretches t) ⊎ (claims s (owners (t -ℤ pos 1)) ≡ false)
  pub times : AreTimes (taken_to s t owners) time_map.times
  pub kept : IsSome (get nat_eq time_map.times.names s.name)
  pub barred : AreBarred owners time_map.ties

-- What holds of a track whose events have the places before one.
use Rattle.std.specs.Prelude.{ℕ, ◌≤◌, List, length}
use Rattle.span_track.specs.Nesting.{ThreadEvent}
use Rattle.span_track.specs.Thread.{ThreadSpans, StandsFor, AreBefore}

-- the track stands for some events, which all stand before this place, and there are no more of them than such places
pub record IsPlaced (next : ℕ) (track : ThreadSpans ℕ) : Type 0 where
  pub events : List (ThreadEvent ℕ)
  pub stands : StandsFor track events
  pub before : AreBefore next events
  pub few : length events ≤ next

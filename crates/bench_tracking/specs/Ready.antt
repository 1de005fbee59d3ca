-- When a track can take an event at a position.
use Rattle.std.specs.Prelude.{ℕ, ◌≤◌, List, length}
use Rattle.span_track.specs.Nesting.{ThreadEvent}
use Rattle.span_track.specs.Thread.{ThreadSpans, StandsFor, AreBefore}

-- the track stands for some events, no more than there are positions before this one, that all stand at those
pub record IsReady (at : ℕ) (track : ThreadSpans ℕ) : Type 0 where
  pub events : List (ThreadEvent ℕ)
  pub stands : StandsFor track events
  pub before : AreBefore at events
  pub few : length events ≤ at

use Rattle.std.proofs.Common.{◌≡◌, take}
use Rattle.span_keyed_tracks.proofs.counter_track.CounterTrack.rows.Given as goal

-- the rows of the series that were passed
abbrev pub invariant-loop-series : goal.invariant-loop-series
invariant-loop-series l = l.rows.items ≡ take l.series-index l.series-items

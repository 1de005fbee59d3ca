use Rattle.std.specs.Prelude.{map}
use Rattle.std.proofs.Common.{◌≡◌}
use Rattle.span_keyed_tracks.specs.Async.{async_row}
use Rattle.span_keyed_tracks.proofs.async_track.rows_of.Given as goal

-- the rows of the keys that were passed
abbrev pub invariant-loop-key : goal.invariant-loop-key
invariant-loop-key l = l.rows.items ≡ map async_row (map (λ e. (e.0.now, e.1.now)) l.yielded)

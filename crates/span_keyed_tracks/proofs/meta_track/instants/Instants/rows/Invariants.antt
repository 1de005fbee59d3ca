use Rattle.std.specs.Prelude.{flat_map}
use Rattle.std.proofs.Common.{◌≡◌, map}
use Rattle.span_keyed_tracks.specs.Instants.{rows_of_thread}
use Rattle.span_keyed_tracks.proofs.meta_track.instants.Instants.rows.Given as goal

-- the rows of the threads that were passed
abbrev pub invariant-loop-thread : goal.invariant-loop-thread
invariant-loop-thread l = l.rows.items ≡ flat_map rows_of_thread (map (λ e. (e.0.now, e.1.now)) l.yielded)

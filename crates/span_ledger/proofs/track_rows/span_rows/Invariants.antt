use Rattle.std.specs.Prelude.{flat_map, map}
use Rattle.std.proofs.Common.{◌≡◌}
use Rattle.span_ledger.specs.TrackRows.{track_span_rows}
use Rattle.span_ledger.proofs.track_rows.span_rows.Given as goal

-- the rows of the threads that were passed
abbrev pub invariant-loop-thread : goal.invariant-loop-thread
invariant-loop-thread l = l.rows.items ≡ flat_map (track_span_rows l.tracks.phases.spans) (map (λ thread. thread.now) l.yielded)

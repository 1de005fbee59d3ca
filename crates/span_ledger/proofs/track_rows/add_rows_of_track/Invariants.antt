use Rattle.std.specs.Prelude.{map}
use Rattle.std.proofs.Common.{◌≡◌, ◌++◌}
use Rattle.span_ledger.specs.TrackRows.{track_span_row}
use Rattle.span_ledger.proofs.track_rows.add_rows_of_track.Given as goal

-- the rows of the names that were passed
abbrev pub invariant-loop-name : goal.invariant-loop-name
invariant-loop-name l = l.rows.items ≡ l.initial.rows.items ++ map (track_span_row l.names l.thread l.track) l.yielded

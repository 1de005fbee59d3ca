use Rattle.std.specs.Prelude.{flat_map}
use Rattle.std.proofs.Common.{◌≡◌, ◌++◌, map}
use Rattle.span_keyed_tracks.specs.Instants.{rows_of_name}
use Rattle.span_keyed_tracks.proofs.meta_track.instants.push_all.Given as goal

-- the rows of the names that were passed
abbrev pub invariant-loop-name : goal.invariant-loop-name
invariant-loop-name l = l.rows.items ≡ l.initial.rows.items ++ flat_map (rows_of_name l.thread) (map (λ e. (e.0.now, e.1.now)) l.yielded)

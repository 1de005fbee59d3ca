use Rattle.std.specs.{BTreeSet.insert_key, Prelude.{fold, filter_map, nat_eq, slice_get}}
use Rattle.std.proofs.Common.{◌≡◌, drop}
use Rattle.span_ledger.specs.{text_cmp, names_of, ascending, TrackRows.closed_names}
use Rattle.span_ledger.proofs.track_rows.names_of.Given as goal

-- the names so far, with those that are left, are all names
abbrev pub invariant-loop-i : goal.invariant-loop-i
invariant-loop-i l = fold (insert_key text_cmp) l.found.keys (filter_map (slice_get l.names) (drop l.i (names_of nat_eq l.track.closed))) ≡ ascending text_cmp (closed_names l.names l.track)

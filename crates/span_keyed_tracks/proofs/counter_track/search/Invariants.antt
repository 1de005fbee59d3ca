use Rattle.std.proofs.Common.{◌≡◌}
use Rattle.span_keyed_tracks.specs.CountersKept.{HaveCounters, found_at, named}
use Rattle.span_keyed_tracks.proofs.counter_track.search.Given as goal

-- none of the keys that were passed is the key, and those to come have counters
abbrev pub invariant-loop-kept : goal.invariant-loop-kept
invariant-loop-kept l = (found_at (named l.counters.keys l.entries.entries) l.key ≡ found_at (named l.counters.keys l.kept-iterator) l.key) × HaveCounters l.counters.keys l.kept-iterator

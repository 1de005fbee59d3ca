use Rattle.std.proofs.Common.{◌≡◌, map}
use Rattle.span_keyed_tracks.specs.CountersKept.{HaveCounters, kept_row, named}
use Rattle.span_keyed_tracks.proofs.counter_track.refs_of.Given as goal

-- the series that were passed, and those to come have counters
abbrev pub invariant-loop-key : goal.invariant-loop-key
invariant-loop-key l = (l.refs.items ≡ map kept_row (named l.counters.keys (map (λ e. (e.0.now, e.1.now)) l.yielded))) × HaveCounters l.counters.keys l.key-iterator

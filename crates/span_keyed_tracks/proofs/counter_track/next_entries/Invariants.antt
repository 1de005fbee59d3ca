use Rattle.std.proofs.Common.{◌≡◌, map, take, drop}
use Rattle.span_keyed_tracks.specs.{AllWhole, CountersKept.{ArePlaced, next_entry}}
use Rattle.span_keyed_tracks.proofs.counter_track.next_entries.Given as goal

-- the members passed have their entries, and those to come are whole numbers
abbrev pub invariant-loop-series : goal.invariant-loop-series
invariant-loop-series l = (map (λ n. (n.1, n.2)) l.next.items ≡ map (next_entry l.entries.entries l.counter l.event) (take l.series-index l.members)) × ArePlaced l.entries.entries l.next.items × AllWhole (drop l.series-index l.members)

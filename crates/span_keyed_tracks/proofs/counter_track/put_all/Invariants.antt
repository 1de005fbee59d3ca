use Rattle.std.specs.Vec.Iter.{into_iter_items}
use Rattle.std.proofs.Common.{◌≡◌, ◌≤◌, length, map}
use Rattle.indexmap.specs.IndexMap.{insert_all, spare}
use Rattle.span_keyed_tracks.specs.CountersKept.{ArePlaced, same_numbered}
use Rattle.span_keyed_tracks.proofs.counter_track.put_all.Given as goal

-- with those to come what is kept is all; they have their places, and there is room for them
abbrev pub invariant-loop-place : goal.invariant-loop-place
invariant-loop-place l =
    (insert_all same_numbered l.entries.entries (map (λ n. (n.1, n.2)) (into_iter_items l.place-iterator)) ≡ insert_all same_numbered l.fn.entries.entries (map (λ n. (n.1, n.2)) l.fn.next.items))
    × ArePlaced l.entries.entries (into_iter_items l.place-iterator) × (length (into_iter_items l.place-iterator) ≤ spare l.entries)

use Rattle.std.specs.Vec.Iter.{into_iter_items}
use Rattle.std.proofs.Common.{rules, ◌≡◌, ℕ, ◌∷◌, Option, map, length, sym, ap, subst, ◌∙◌, arith}
use Rattle.indexmap.specs.IndexMap.{insert_all}
use Rattle.span_keyed_tracks.specs.{Counters.Series, CountersKept.{ArePlaced, same_numbered}, declared.counter_track.counter.NumberedSeries.NumberedSeries}
use Rattle.span_keyed_tracks.proofs.SeriesKept.{ArePlaced-put}
use Rattle.span_keyed_tracks.proofs.counter_track.put_all.Goals as goal

pub loop-place-preserved : goal.loop-place-preserved
loop-place-preserved c =
    let inv = c.loop-place.invariant in
    let m = c.loop-place.entries.entries in
    let rest = into_iter_items c.next.new.self in
    let items : into_iter_items c.loop-place.place-iterator ≡ (c.in-Some.place, c.in-Some.key, c.in-Some.running) ∷ rest = search rules in
    let put = c.put.ensures.entries in
    let placed : ArePlaced m ((c.in-Some.place, c.in-Some.key, c.in-Some.running) ∷ rest) = subst (ArePlaced m) items inv.1 in (
      ap (λ es. insert_all same_numbered es (map (λ (n : Option ℕ × NumberedSeries × Series). (n.1, n.2)) rest)) put
          ∙ ap (λ ns. insert_all same_numbered m (map (λ (n : Option ℕ × NumberedSeries × Series). (n.1, n.2)) ns)) (sym items) ∙ inv.0,
      subst (λ es. ArePlaced es rest) (sym put) (ArePlaced-put m c.in-Some.key c.in-Some.running rest placed.1),
      omega (arith, ap length items, inv.2, c.put.ensures.spare),
    )

pub put-requires-clause-placed : goal.put-requires-clause-placed
put-requires-clause-placed c =
    let items : into_iter_items c.loop-place.place-iterator ≡ (c.in-Some.place, c.in-Some.key, c.in-Some.running) ∷ into_iter_items c.next.new.self = search rules in
    (subst (ArePlaced c.loop-place.entries.entries) items c.loop-place.invariant.1).0

pub put-requires-clause-fits : goal.put-requires-clause-fits
put-requires-clause-fits c =
    let items : into_iter_items c.loop-place.place-iterator ≡ (c.in-Some.place, c.in-Some.key, c.in-Some.running) ∷ into_iter_items c.next.new.self = search rules in
    omega (arith, ap length items, c.loop-place.invariant.2)

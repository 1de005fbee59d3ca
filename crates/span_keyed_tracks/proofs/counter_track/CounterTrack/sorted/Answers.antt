use Rattle.std.specs.List.Sorted.{IsPermutation}
use Rattle.std.proofs.{Common.{rules, map, refl, subst, ◌∙◌}, lemmas.Cmp.on_total}
use Rattle.span_keyed_tracks.specs.{CountersKept.{kept_row, named}, declared.counter_track.SeriesRow.SeriesRow}
use Rattle.span_keyed_tracks.proofs.{KeyOrder.{IsDistinct-rows, ascending-rows}, Orders.{series_cmp-total, series_cmp-same}, SeriesKept.{AreApart-kept, rows-ascending}, Sorting.{IsSorted-from_sort_by, sorted-ascending}}
use Rattle.span_keyed_tracks.proofs.counter_track.CounterTrack.sorted.Goals as goal

pub returns : goal.returns
returns c = λ es stands.
    let entries = named c.self.inside.counters.keys c.self.inside.series.entries in
    let total = on_total (λ (r : SeriesRow). r.key) series_cmp-total in
    let sorted = c.sort_unstable_by.new.self.items in
    let moved = subst (λ rows. IsPermutation rows sorted) c.in_ok-sorted.ensures c.sort_unstable_by.ensures.permutation in
    let apart = AreApart-kept entries es (c.self.view_is ∙ stands) in
    sorted-ascending total (map kept_row entries) sorted (IsDistinct-rows series_cmp-total series_cmp-same (λ (r : SeriesRow). r.key) kept_row (λ e. refl) entries apart) moved
    (IsSorted-from_sort_by total sorted c.sort_unstable_by.ensures.sorted (λ a r f' call. search rules))
    ∙ ascending-rows series_cmp-total series_cmp-same (λ (r : SeriesRow). r.key) kept_row (λ e. refl) entries apart
    ∙ rows-ascending entries es (c.self.view_is ∙ stands)

use Rattle.std.specs.{List.Sorted.IsPermutation, Map.keys_of}
use Rattle.std.proofs.{Common.{rules, map, refl, ap, subst, ◌∙◌}, lemmas.Cmp.on_total}
use Rattle.span_keyed_tracks.specs.{Async.async_row, declared.async_track.AsyncRow.AsyncRow}
use Rattle.span_keyed_tracks.proofs.{InKeyOrder.AreApart-distinct, KeyOrder.{IsDistinct-rows, ascending-rows}, Orders.{async_cmp-total, async_cmp-same}, Sorting.{IsSorted-from_sort_by, sorted-ascending}}
use Rattle.span_keyed_tracks.proofs.async_track.AsyncTrack.rows.Goals as goal

pub returns : goal.returns
returns c =
    let entries = c.self.inside.keys.entries in
    let key = λ (r : AsyncRow). r.key in
    let total = on_total key async_cmp-total in
    let sorted = c.sort_unstable_by.new.self.items in
    let moved = subst (λ rows. IsPermutation rows sorted) c.in_ok-rows.ensures c.sort_unstable_by.ensures.permutation in
    let apart = AreApart-distinct async_cmp-total (keys_of entries) c.self.invariant in
    sorted-ascending total (map async_row entries) sorted (IsDistinct-rows async_cmp-total async_cmp-same key async_row (λ e. refl) entries apart) moved
    (IsSorted-from_sort_by total sorted c.sort_unstable_by.ensures.sorted (λ a r f' call. search rules))
    ∙ ascending-rows async_cmp-total async_cmp-same key async_row (λ e. refl) entries apart ∙ ap (map async_row) c.self.view_is

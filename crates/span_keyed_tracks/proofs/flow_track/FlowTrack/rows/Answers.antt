use Rattle.std.specs.{List.Sorted.IsPermutation, Map.keys_of}
use Rattle.std.proofs.{Common.{rules, map, refl, ap, subst, ◌∙◌}, lemmas.Cmp.on_total}
use Rattle.span_keyed_tracks.specs.{Flow.flow_row, declared.flow_track.FlowRow.FlowRow}
use Rattle.span_keyed_tracks.proofs.{InKeyOrder.AreApart-distinct, KeyOrder.{IsDistinct-rows, ascending-rows}, Orders.{flow_cmp-total, flow_cmp-same}, Sorting.{IsSorted-from_sort_by, sorted-ascending}}
use Rattle.span_keyed_tracks.proofs.flow_track.FlowTrack.rows.Goals as goal

pub returns : goal.returns
returns c =
    let entries = c.self.inside.keys.entries in
    let key = λ (r : FlowRow). r.key in
    let total = on_total key flow_cmp-total in
    let sorted = c.sort_unstable_by.new.self.items in
    let moved = subst (λ rows. IsPermutation rows sorted) c.in_ok-rows.ensures c.sort_unstable_by.ensures.permutation in
    let apart = AreApart-distinct flow_cmp-total (keys_of entries) c.self.invariant in
    sorted-ascending total (map flow_row entries) sorted (IsDistinct-rows flow_cmp-total flow_cmp-same key flow_row (λ e. refl) entries apart) moved
    (IsSorted-from_sort_by total sorted c.sort_unstable_by.ensures.sorted (λ a r f' call. search rules))
    ∙ ascending-rows flow_cmp-total flow_cmp-same key flow_row (λ e. refl) entries apart ∙ ap (map flow_row) c.self.view_is

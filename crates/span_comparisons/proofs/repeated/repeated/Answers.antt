use Rattle.std.specs.{List.Sorted.IsPermutation, Prelude.filter}
use Rattle.std.proofs.{Common.{rules, map, sym, ap, subst, ◌∙◌}, lemmas.Fn.filter_same}
use Rattle.span_self_time.proofs.Mapped.{filter-map}
use Rattle.span_keyed_tracks.proofs.Sorting.{IsSorted-from_sort_by, sorted-ascending}
use Rattle.span_comparisons.specs.{is_wanted, Sides.ClassifiesSpreads, Spreads.{is_apart, shown_spreads, spreads_at}}
use Rattle.span_comparisons.proofs.SpreadOrder.{ClassifiesSpreads-shown, spread_order-total, spreads-distinct}
use Rattle.span_comparisons.proofs.repeated.repeated.Goals as goal

pub returns-clause-keys : goal.returns-clause-keys
returns-clause-keys c =
    let wanted = c.args.shown.now in
    ap (map (λ key. key.now)) (filter_same _ (λ key. is_wanted wanted key.now) _ (λ key b f' call. search rules) _ _ c.retain.ensures.filtered)
    ∙ sym (filter-map (is_wanted wanted) (λ key. key.now) c.in_ok-keys.keys.items)
    ∙ ap (filter (is_wanted wanted)) c.in_ok-keys.ensures

pub returns-clause-apart : goal.returns-clause-apart
returns-clause-apart c =
    let base = c.args.base.now in
    let other = c.args.other.now in
    let keys = c.retain.new.self.items in
    let found = c.in_ok-apart.apart.items in
    let sorted = c.sort_unstable_by.new.self.items in
    let rows = filter is_apart (shown_spreads c.args.by c.args.shown.now base other) in
    let classifies = subst (λ l. ClassifiesSpreads (map (λ key. spreads_at c.args.by base other key.now) l) c.in_ok-apart.field-0.apart.items c.in_ok-apart.field-0.overlap c.in_ok-apart.field-0.same) c.deref.ensures.value c.in_ok-apart.ensures in
    let shown = ClassifiesSpreads-shown (λ key. key.now) c.args.by c.args.shown.now base other keys _ _ _ (returns-clause-keys c) classifies in
    let moved = subst (λ l. IsPermutation l sorted) shown.apart c.sort_unstable_by.ensures.permutation in
    sorted-ascending spread_order-total rows sorted (spreads-distinct c.args.by c.args.shown.now base other) moved
    (IsSorted-from_sort_by spread_order-total sorted c.sort_unstable_by.ensures.sorted (λ a r f' call. search rules))

pub returns-clause-overlap : goal.returns-clause-overlap
returns-clause-overlap c =
    let base = c.args.base.now in
    let other = c.args.other.now in
    let classifies = subst (λ l. ClassifiesSpreads (map (λ key. spreads_at c.args.by base other key.now) l) c.in_ok-apart.field-0.apart.items c.in_ok-apart.field-0.overlap c.in_ok-apart.field-0.same) c.deref.ensures.value c.in_ok-apart.ensures in
    (ClassifiesSpreads-shown (λ key. key.now) c.args.by c.args.shown.now base other c.retain.new.self.items _ _ _ (returns-clause-keys c) classifies).overlaps

pub returns-clause-same : goal.returns-clause-same
returns-clause-same c =
    let base = c.args.base.now in
    let other = c.args.other.now in
    let classifies = subst (λ l. ClassifiesSpreads (map (λ key. spreads_at c.args.by base other key.now) l) c.in_ok-apart.field-0.apart.items c.in_ok-apart.field-0.overlap c.in_ok-apart.field-0.same) c.deref.ensures.value c.in_ok-apart.ensures in
    (ClassifiesSpreads-shown (λ key. key.now) c.args.by c.args.shown.now base other c.retain.new.self.items _ _ _ (returns-clause-keys c) classifies).sames

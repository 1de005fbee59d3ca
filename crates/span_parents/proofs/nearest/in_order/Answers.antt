use Rattle.std.specs.List.{IsDistinct, Sorted.{IsPermutation, IsStrictlySortedBy}}
use Rattle.std.specs.Ordering.{eq_by_cmp}
use Rattle.std.proofs.{Common.{◌≡◌, List, ◌∷◌, [], ◌++◌, ap, ap₂, subst, sym, ◌∙◌, rules}, lemmas.List.take_all}
use Rattle.span_journal.proofs.Sorted.{ascending-sorted}
use Rattle.span_ledger.proofs.Sorting.{IsSorted-from_sort_by, sorted-ascending}
use Rattle.span_parents.specs.{Timed, Holding.spans_of, Nearest.{placed, placed_from, placed_order}}
use Rattle.span_parents.proofs.Order.{IsDistinct-placed_from, placed_from-more, placed_order-total}
use Rattle.span_parents.proofs.nearest.in_order.Goals as goal

pub loop-place-preserved : goal.loop-place-preserved
loop-place-preserved c =
    let timed = c.index-spans-place.result in
    let place = c.loop-place.place in
    let one = c.of.ensures ∙ ap (λ (t : Timed). placed c.args.among t.span place) c.index-spans-place.is in
    c.in_ok-push.ensures.items ∙ ap₂ (λ front last. front ++ last ∷ []) c.loop-place.invariant one ∙ sym (placed_from-more c.args.among c.args.spans.now place timed c.loop-place-test.true)

pub returns : goal.returns
returns c =
    let spans = c.args.spans.now in
    let all = c.loop-place.ordered.items in
    let sorted = c.sort_unstable_by.new.self.items in
    let is : all ≡ placed_from c.args.among 0 (spans_of spans) =
    c.loop-place.invariant ∙ ap (λ (some : List Timed). placed_from c.args.among 0 (spans_of some)) (take_all c.loop-place.place spans c.loop-place-test.false) in
    let distinct = subst (IsDistinct (eq_by_cmp placed_order)) (sym is) (IsDistinct-placed_from c.args.among 0 (spans_of spans) c.requires.spans) in
    let ascends = sorted-ascending placed_order-total all sorted distinct c.sort_unstable_by.ensures.permutation
    (IsSorted-from_sort_by placed_order-total sorted c.sort_unstable_by.ensures.sorted (λ a r f' call. search rules)) in
    record {
      order = subst (IsStrictlySortedBy placed_order) (sym ascends) (ascending-sorted placed_order-total all);
      same = subst (λ l. IsPermutation l sorted) is c.sort_unstable_by.ensures.permutation;
    }

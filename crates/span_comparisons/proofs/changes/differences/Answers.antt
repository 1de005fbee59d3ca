use Rattle.std.specs.{List.Sorted.IsPermutation, Prelude.filter}
use Rattle.std.proofs.{Common.{rules, List, ◌++◌, sym, ap, subst, ◌∙◌, arith}, lemmas.List.Sorted.{IsPermutation-trans, length_permutation}}
use Rattle.span_keyed_tracks.proofs.Sorting.{IsSorted-from_sort_by, sorted-ascending}
use Rattle.span_comparisons.specs.{ascending, Number, Changed.{base_keys, new_keys}, Changes.{compared, gaps_order, is_changed, shown_changes}}
use Rattle.span_comparisons.proofs.{Compared.{Classifies-few, gaps_order-total, length-changes}, Permuted.{changes-distinct, length-classified, same_count-classified, shown-permuted}}
use Rattle.span_comparisons.proofs.changes.differences.Goals as goal

pub overflow_add-shown : goal.overflow_add-shown
overflow_add-shown c =
    let keys = base_keys c.args.base.now c.args.other.now ++ new_keys c.args.base.now c.args.other.now in
    let few = Classifies-few c.args.shown.now keys c.classify_new.new.found.changes.items c.classify_new.new.found.same c.classify_new.new.found.all c.in_ok-classify_new.ensures.classified in
    omega (arith, few, c.in_ok-classify_new.ensures.few)

pub returns-clause-changes : goal.returns-clause-changes
returns-clause-changes c =
    let base = c.args.base.now in
    let other = c.args.other.now in
    let wanted = c.args.shown.now in
    let order = c.in_ok-order.order.items in
    let total = gaps_order-total order in
    let sorted = c.sort_unstable_by.new.self.items in
    let found = c.classify_new.new.found.changes.items in
    let rows = filter is_changed (shown_changes wanted (compared base other)) in
    let among = subst (IsPermutation rows) (sym c.in_ok-classify_new.ensures.classified.changes) (shown-permuted base other wanted c.requires.base c.requires.other is_changed) in
    sorted-ascending total rows sorted (changes-distinct order wanted base other) (IsPermutation-trans rows found sorted among c.sort_unstable_by.ensures.permutation)
    (IsSorted-from_sort_by total sorted c.sort_unstable_by.ensures.sorted (λ a r f' call. search rules))
    ∙ ap (λ (numbers : List Number). ascending (gaps_order numbers) rows) c.in_ok-order.ensures

pub returns-clause-same : goal.returns-clause-same
returns-clause-same c = c.in_ok-classify_new.ensures.classified.same ∙ same_count-classified c.args.base.now c.args.other.now c.args.shown.now c.requires.base c.requires.other

pub returns-clause-all : goal.returns-clause-all
returns-clause-all c = c.in_ok-classify_new.ensures.classified.all ∙ length-classified c.args.base.now c.args.other.now c.requires.base c.requires.other

pub returns-clause-shown : goal.returns-clause-shown
returns-clause-shown c =
    let base = c.args.base.now in
    let other = c.args.other.now in
    let wanted = c.args.shown.now in
    let shown = shown_changes wanted (compared base other) in
    let found = c.classify_new.new.found.changes.items in
    let moved = length_permutation (filter is_changed shown) found (subst (IsPermutation (filter is_changed shown)) (sym c.in_ok-classify_new.ensures.classified.changes) (shown-permuted base other wanted c.requires.base c.requires.other is_changed)) in
    let same = c.in_ok-classify_new.ensures.classified.same ∙ same_count-classified base other wanted c.requires.base c.requires.other in
    omega (arith, moved, same, length-changes shown, c.len.ensures)

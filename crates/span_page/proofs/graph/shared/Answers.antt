use Rattle.std.specs.List.{common_prefix_len}
use Rattle.std.proofs.{Common.{◌≡◌, List, false, drop, get_or, sym, ap, ap₂, ◌∙◌, arith}, lemmas.List.{drop_all, Sums.common_prefix_len-drop_no}}
use Rattle.span_page.specs.{Value, same_text}
use Rattle.span_page.proofs.GraphRows.{common_prefix_len-none, same_label, shared-labels}
use Rattle.span_page.proofs.graph.shared.Goals as goal

-- the labels differ
pub returns-else-eq-clause-alike : goal.returns-else-eq-clause-alike
returns-else-eq-clause-alike c =
    let before = c.args.before.now in
    let values = c.args.values.now in
    let n = c.loop-alike.alike in
    let x = c.index-before-alike.result in
    let y = c.index-values-alike.result in
    let differ : same_label (get_or before n x) (get_or values n y) ≡ false =
    ap₂ same_label (sym c.index-before-alike.is) (sym c.index-values-alike.is) ∙ ap₂ same_text (sym c.label_of.ensures) (sym c.label_of-then-alike-values.ensures) ∙ sym c.eq.ensures ∙ c.if-eq.false in
    let none = common_prefix_len-drop_no same_label before values n x y c.loop-alike-test.true c.if-alike-values.true differ in
    omega (arith, c.loop-alike.invariant.1, none, shared-labels before values)

-- the second key ends
pub returns-else-alike-values-clause-alike : goal.returns-else-alike-values-clause-alike
returns-else-alike-values-clause-alike c =
    let before = c.args.before.now in
    let values = c.args.values.now in
    let n = c.loop-alike.alike in
    let none = ap (λ (ys : List Value). common_prefix_len same_label (drop n before) ys) (drop_all n values (omega (arith, c.if-alike-values.false))) in
    omega (arith, c.loop-alike.invariant.1, none, common_prefix_len-none (drop n before), shared-labels before values)

-- the first key ends
pub returns-after-loop-alike-clause-alike : goal.returns-after-loop-alike-clause-alike
returns-after-loop-alike-clause-alike c =
    let before = c.args.before.now in
    let values = c.args.values.now in
    let n = c.loop-alike.alike in
    let none = ap (λ (xs : List Value). common_prefix_len same_label xs (drop n values)) (drop_all n before (omega (arith, c.loop-alike-test.false))) in
    omega (arith, c.loop-alike.invariant.1, none, shared-labels before values)

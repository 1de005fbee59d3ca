use Rattle.std.proofs.Common.{◌≡◌, ◌++◌, append-nil, sym, ap, subst, ◌∙◌}
use Rattle.span_read.specs.{IsInNameOrder}
use Rattle.span_read.proofs.NameOrder.{IsInNameOrder-sorted}
use Rattle.span_read.proofs.arg_map.args_of_map.Goals as goal

pub of_pairs-requires : goal.of_pairs-requires
of_pairs-requires c =
    let pairs = c.loop-name.pairs.items in
    let entries = c.args.map.entries in
    let all : pairs ≡ entries = sym (append-nil pairs) ∙ ap (λ left. pairs ++ left) (sym c.in-None.ensures.steps.0) ∙ c.loop-name.invariant in
    subst IsInNameOrder (sym all) (IsInNameOrder-sorted entries c.len.ensures.ordered)

use Rattle.std.proofs.Common.{◌≡◌, length, subst, sym, IfOk, arith}
use Rattle.span_event.specs.Args.{IsInNameOrder}
use Rattle.span_event.proofs.Merged.{IsInNameOrder-merged, merged-no_begin, merged-no_end}
use Rattle.span_event.proofs.args.merge_args.Goals as goal

pub returns-then-is_empty : goal.returns-then-is_empty
returns-then-is_empty c =
    let none : length c.args.end.now ≡ 0 = grind arith in
    let same = merged-no_end c.args.begin.now c.args.end.now none c.pairs-first.ensures.in_order in
    subst (λ whole. IfOk c.try_clone.result (λ args. args ≡ whole)) (sym same) c.try_clone.ensures

pub returns-then-is_empty-2 : goal.returns-then-is_empty-2
returns-then-is_empty-2 c =
    let none : length c.args.begin.now ≡ 0 = grind arith in
    let same = merged-no_begin c.args.begin.now c.args.end.now none c.pairs-last.ensures.in_order in
    subst (λ whole. IfOk c.try_clone-then-is_empty-2.result (λ args. args ≡ whole)) (sym same) c.try_clone-then-is_empty-2.ensures

pub of_pairs-requires : goal.of_pairs-requires
of_pairs-requires c = subst IsInNameOrder (sym c.in_ok-pairs.ensures) (IsInNameOrder-merged c.pairs-first.result.now c.pairs-last.result.now)

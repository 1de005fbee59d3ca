use Rattle.std.proofs.Common.{sym}
use Rattle.span_event.proofs.Merged.{merged-begin, merged-end, merged-both, IsBelowAll-first, IsBelowAll-none, below_the_other}
use Rattle.span_event.proofs.args.next_pair.Goals as goal

pub returns-in-None-Some-clause-first : goal.returns-in-None-Some-clause-first
returns-in-None-Some-clause-first c =
    merged-end _ _ _ _ c.in-None-Some.ensures'.cases.0 c.requires.end_in_order (IsBelowAll-none _ _ c.in-None-Some.ensures.cases)

pub returns-in-Some-None-clause-first : goal.returns-in-Some-None-clause-first
returns-in-Some-None-clause-first c =
    merged-begin _ _ _ _ c.in-Some-None.ensures.cases.0 c.requires.begin_in_order (IsBelowAll-none _ _ c.in-Some-None.ensures'.cases)

pub returns-in-Less-clause-first : goal.returns-in-Less-clause-first
returns-in-Less-clause-first c =
    let arm = c.in-Some-Some in
    merged-begin _ _ _ _ arm.ensures.cases.0 c.requires.begin_in_order (IsBelowAll-first _ _ _ _ arm.ensures'.cases.0 c.requires.end_in_order (sym c.in-Less.ensures))

pub returns-in-Equal-clause-first : goal.returns-in-Equal-clause-first
returns-in-Equal-clause-first c =
    let arm = c.in-Some-Some in
    merged-both _ _ _ _ _ _ arm.ensures.cases.0 arm.ensures'.cases.0 (sym c.in-Equal.ensures) c.requires.begin_in_order c.requires.end_in_order

pub returns-in-Greater-clause-first : goal.returns-in-Greater-clause-first
returns-in-Greater-clause-first c =
    let arm = c.in-Some-Some in
    merged-end _ _ _ _ arm.ensures'.cases.0 c.requires.end_in_order (IsBelowAll-first _ _ _ _ arm.ensures.cases.0 c.requires.begin_in_order (below_the_other arm.b.now.0 arm.e.now.0 (sym c.in-Greater.ensures)))

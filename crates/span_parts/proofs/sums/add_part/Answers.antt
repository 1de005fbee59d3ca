use Rattle.std.proofs.{Common.subst, lemmas.Result.err_from_is_err_and}
use Rattle.span_parts.specs.Rows.{AllAdded}
use Rattle.span_parts.proofs.Whole.{IsAdded-rows, SumFails-rows}
use Rattle.span_parts.proofs.sums.add_part.Goals as goal

pub returns-clause-added : goal.returns-clause-added
returns-clause-added c = λ text begins.
    let first = c.args.first.now in
    let choice = c.args.choice.now in
    let rest = c.args.rest.now in
    let new = c.add_rows.new.sum.table in
    IsAdded-rows text rest first begins choice c.args.sum.table new (subst (λ sum. AllAdded first.schema choice rest first.rows sum new) c.in_ok-add_counts.ensures.added c.in_ok-add_rows.ensures.added)

pub returns-in_err-add_rows-clause-fault : goal.returns-in_err-add_rows-clause-fault
returns-in_err-add_rows-clause-fault c =
    let p = err_from_is_err_and c.from_residual-in_err-add_rows.result c.from_residual-in_err-add_rows.ensures.1 in
    rw (p.1, p.2) (λ text begins. SumFails-rows text c.args.rest.now c.args.first.now begins c.in_err-add_rows.field-0.0 c.in_err-add_rows.ensures.fault)

use Rattle.std.proofs.{Common.{rules, Some, None, ◌∷◌, ◌+◌, sym, ap, subst, ◌∙◌, length, length-append, true≢false, ◌==◌, arith}, lemmas.Str.Pattern.{split_after, split_parts}}
use Rattle.span_parts.specs.{Bytes, Row, Rows.AreAdded}
use Rattle.span_parts.proofs.{Added.{AllAdded-end, AreAdded-none, AreAdded-push, AreNoRows-rest, EndsLine, RowsFail-row}, Lists.nothing-left}
use Rattle.span_parts.proofs.sums.add_rows.Goals as goal

pub loop-line-init : goal.loop-line-init
loop-line-init c = (
  search rules,
  AreAdded-none c.args.schema.now c.args.choice.now c.args.text.now c.args.sum.now.table,
  omega arith,
)

pub returns-in-Err-clause-fault : goal.returns-in-Err-clause-fault
returns-in-Err-clause-fault c =
    let rest = c.loop-line.rest.now in
    let cases = c.in-Some.ensures.cases in
    let parts = split_parts 10 rest (Some (c.in-Some.line, c.in-Some.after)) cases (omega arith) in
    let ends : EndsLine rest c.in-Some.line.now c.in-Some.after.now = λ xs ys whole free. split_after 10 rest xs ys (Some (c.in-Some.line, c.in-Some.after)) cases (omega arith) whole (λ i lt. free i 0 lt) in
    RowsFail-row c.args.schema.now c.args.choice.now c.args.text.now rest c.loop-line.done c.loop-line.last c.args.sum.now.table c.loop-line.sum.table c.loop-line.invariant.1 c.in-Some.line.now c.in-Some.after.now c.args.count c.in-Err.fault ends parts.0 c.in-Err.ensures.fault

pub loop-line-preserved : goal.loop-line-preserved
loop-line-preserved c =
    let rest = c.loop-line.rest.now in
    let line = c.in-Some.line.now in
    let after = c.in-Some.after.now in
    let cases = c.in-Some.ensures.cases in
    let parts = split_parts 10 rest (Some (c.in-Some.line, c.in-Some.after)) cases (omega arith) in
    let ends : EndsLine rest line after = λ xs ys whole free. split_after 10 rest xs ys (Some (c.in-Some.line, c.in-Some.after)) cases (omega arith) whole (λ i lt. free i 0 lt) in
    let pushed = AreAdded-push c.args.schema.now c.args.choice.now c.args.text.now rest c.loop-line.done c.loop-line.last c.args.sum.now.table c.loop-line.sum.table c.loop-line.invariant.1 line after c.in-Ok.row c.add_row.new.sum.table ends parts.0 c.in-Ok.ensures.row c.in-Ok.ensures.only c.in_ok-add_row.ensures.added in (
      search rules,
      subst (λ (row : Row). AreAdded c.args.schema.now c.args.choice.now c.args.text.now after (c.loop-line.done + 1) (Some row) c.args.sum.now.table c.add_row.new.sum.table) (sym c.in_ok-add_row.ensures.same) pushed,
      omega (arith, ap length parts.0, length-append line (10 ∷ after), c.loop-line.invariant.2),
    )

pub returns-then-not-is_empty-clause-fault : goal.returns-then-not-is_empty-clause-fault
returns-then-not-is_empty-clause-fault c =
    let rest = c.loop-line.rest.now in
    AreNoRows-rest c.args.schema.now c.args.choice.now c.args.text.now rest c.loop-line.done c.loop-line.last c.args.sum.now.table c.loop-line.sum.table c.loop-line.invariant.1 c.args.count
    (split_parts 10 rest None c.in_default.ensures.cases (omega arith))
    (λ empty same. true≢false (sym (c.if-not-is_empty.ensures ∙ ap (λ (l : Bytes). length l == 0) empty)))

pub returns-then-done-count-clause-fault : goal.returns-then-done-count-clause-fault
returns-then-done-count-clause-fault c =
    let rest = c.loop-line.rest.now in
    AreNoRows-rest c.args.schema.now c.args.choice.now c.args.text.now rest c.loop-line.done c.loop-line.last c.args.sum.now.table c.loop-line.sum.table c.loop-line.invariant.1 c.args.count
    (split_parts 10 rest None c.in_default.ensures.cases (omega arith))
    (λ empty same. omega (arith, same, c.if-done-count.true))

pub returns-clause-added : goal.returns-clause-added
returns-clause-added c =
    AllAdded-end c.args.schema.now c.args.choice.now c.args.text.now c.loop-line.rest.now c.loop-line.done c.loop-line.last c.args.sum.now.table c.loop-line.sum.table c.loop-line.invariant.1 c.args.count
    (nothing-left c.loop-line.rest.now c.if-not-is_empty.ensures) (omega (arith, c.if-done-count.false))

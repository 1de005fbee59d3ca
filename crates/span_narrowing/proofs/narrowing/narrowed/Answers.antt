use Rattle.std.proofs.{Common.{◌≡◌, ◌∙◌, ◌<◌, ap, arith, get_or, length, subst, sym}, lemmas.Result.IfOk-weaker}
use Rattle.span_table.specs.Tables.{RowsRise}
use Rattle.span_table.proofs.Mixed.{RowsRise-sorted}
use Rattle.span_narrowing.specs.{Schema, Narrowed.{narrowed, narrowed_key, shown_with}}
use Rattle.span_narrowing.proofs.{Plain.narrowed-plain, Shown.{first_sums, first_sums-all, first_sums-kept, first_sums-left}}
use Rattle.span_narrowing.proofs.narrowing.narrowed.Goals.{in-Some+in_ok-add_row, in_default}
use Rattle.span_narrowing.proofs.narrowing.narrowed.Goals as goal

pub returns-then-is_plain : goal.returns-then-is_plain
returns-then-is_plain c = sym (narrowed-plain c.args.narrowing.now c.args.table (sym c.if-is_plain.ensures) (RowsRise-sorted c.args.table.rows c.rows-rows.result.now c.rows-rows.ensures))

pub loop-row-preserved : goal.loop-row-preserved
loop-row-preserved c =
    let narrowing = c.args.narrowing.now in
    let table = c.args.table in
    let rows = c.rows-rows.result.now in
    let n = c.loop-row.row-index in
    let row = c.row-item.result in
    let low : n < length rows = omega arith in
    let found : c.in_ok-key.field-0 ≡ narrowed_key narrowing table.schema.columns row.key = c.in_ok-key.ensures ∙ ap (λ columns. narrowed_key narrowing columns row.key) (c.deref.ensures.value ∙ ap (λ (schema : Schema). schema.columns) (c.schema.view_is ∙ c.schema-schema.ensures)) in
    elim c.match-branch-3.branch [
      | in-Some+in_ok-add_row w ↦ ap (λ sum. sum.table) w.sum-is
          ∙ first_sums-kept narrowing table rows n row low c.row-item.is w.in-Some.key c.loop-row.sum.table w.add_row.new.self.table (sym w.in-Some.is ∙ found) c.loop-row.invariant w.in_ok-add_row.ensures.added
      | in_default w ↦ ap (λ sum. sum.table) w.sum-is ∙ first_sums-left narrowing table rows n row low c.row-item.is c.loop-row.sum.table (sym w.in_default.is ∙ found) c.loop-row.invariant
    ]

pub returns : goal.returns
unfolding narrowed
returns c =
    let narrowing = c.args.narrowing.now in
    let table = c.args.table in
    let rows = c.rows-rows.result.now in
    let all : c.loop-row.row-index ≡ length rows = omega arith in
    IfOk-weaker c.into_table.result _ _
    (λ made is. is ∙ c.loop-row.invariant ∙ ap (λ n. shown_with narrowing table (first_sums narrowing table rows n)) all ∙ first_sums-all narrowing table rows c.rows-rows.ensures)
    c.into_table.ensures

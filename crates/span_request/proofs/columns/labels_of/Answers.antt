use Rattle.std.proofs.Common.{◌∙◌, [], ◌++◌, ap, append-nil, sym}
use Rattle.std.specs.List.{cons_option}
use Rattle.span_request.proofs.ColumnNames.{labels-next}
use Rattle.span_request.proofs.columns.labels_of.Goals.{in-Some+in_ok-push, in_default}
use Rattle.span_request.proofs.columns.labels_of.Goals as goal

pub loop-column-preserved : goal.loop-column-preserved
loop-column-preserved c = labels-next c.args.columns.now c.loop-column.column-index c.column-item.result c.loop-column.labels.items c.match-branch-2.labels.items
    c.loop-column-test.true c.column-item.is c.loop-column.invariant (elim c.match-branch-2.branch [
      | in-Some+in_ok-push w ↦ ap (λ labels. labels.items) w.labels-is ∙ w.in_ok-push.ensures.items
          ∙ ap (λ label. c.loop-column.labels.items ++ cons_option label []) (sym w.in-Some.is ∙ c.in_ok-label.ensures)
      | in_default w ↦ ap (λ labels. labels.items) w.labels-is ∙ sym (append-nil c.loop-column.labels.items)
          ∙ ap (λ label. c.loop-column.labels.items ++ cons_option label []) (sym w.in_default.is ∙ c.in_ok-label.ensures)
    ])

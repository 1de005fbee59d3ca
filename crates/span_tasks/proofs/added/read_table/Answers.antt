use Rattle.std.proofs.Common.{inl, ap, subst, ◌∙◌, arith}
use Rattle.span_runs.proofs.Stopping.{OfStop-weaker}
use Rattle.std.specs.Prelude.{Some}
use Rattle.span_tasks.specs.{BeginOtherwise, fault_line, printed}
use Rattle.span_tasks.proofs.Begun.{IsNoTable-long, IsNoTable-otherwise}
use Rattle.span_tasks.proofs.added.read_table.Goals.{then-begins_otherwise-via-then-begins_otherwise, then-begins_otherwise-via-else-begins_otherwise+then-len-gt-MOST_ADDED}
use Rattle.span_tasks.proofs.added.read_table.Goals as goal

-- nothing was read
pub returns-in-Err-clause-stop : goal.returns-in-Err-clause-stop
returns-in-Err-clause-stop g c = OfStop-weaker _ _ (λ lines said. inl said) c.unread.result c.unread.ensures

-- it begins otherwise, or is too long
pub returns-then-begins_otherwise-clause-stop : goal.returns-then-begins_otherwise-clause-stop
returns-then-begins_otherwise-clause-stop g c =
    let source = g.S.Source.bytes c.args.source.now in
    let name = c.args.name.now in
    let text = c.in-Ok.text.items in
    let read = c.in-Ok.ensures.begun in
    OfStop-weaker _ _ (λ lines said. let says = said ∙ ap (fault_line (printed name)) c.code.ensures in elim c.then-begins_otherwise.branch [
      | then-begins_otherwise-via-then-begins_otherwise w ↦
          IsNoTable-otherwise source name text lines read says (subst (BeginOtherwise (Some 123)) c.deref.ensures.value (c.begins_otherwise.ensures.0 w.if-begins_otherwise.true))
      | then-begins_otherwise-via-else-begins_otherwise+then-len-gt-MOST_ADDED w ↦ IsNoTable-long source name text lines read says (omega (arith, w.if-len-gt-MOST_ADDED.true, w.len.ensures))
    ]) c.of_name.result c.of_name.ensures

use Rattle.std.proofs.Common.{inl}
use Rattle.span_runs.proofs.Stopping.{OfStop-weaker}
use Rattle.span_tasks.proofs.Adding.{StopsAdding-part}
use Rattle.span_tasks.proofs.added.add_name.Goals as goal

-- the text is one part more
pub returns-in-Ok-add-clause-sum : goal.returns-in-Ok-add-clause-sum
returns-in-Ok-add-clause-sum g c = record {
  text = c.in-Ok.text.items;
  read = c.in-Ok.ensures.text;
  takes = rw c.deref.ensures.value at c.in-Ok-add.ensures.sum;
}

-- it was refused
pub returns-clause-stop : goal.returns-clause-stop
returns-clause-stop g c =
    OfStop-weaker _ _ (StopsAdding-part (g.S.Source.bytes c.args.source.now) c.args.name.now c.in-Ok.text.items c.args.parts.schema c.args.parts.unit c.in-Err-add.fault c.in-Ok.ensures.text
    (rw c.deref.ensures.value at c.in-Err-add.ensures.fault)) c.halt_of_part.result c.halt_of_part.ensures

-- there is no text
pub returns-in-Err-clause-stop : goal.returns-in-Err-clause-stop
returns-in-Err-clause-stop g c = OfStop-weaker _ _ (λ lines no. inl no) c.in-Err.halt c.in-Err.ensures.stop

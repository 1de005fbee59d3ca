use Rattle.std.proofs.Common.{inl}
use Rattle.span_runs.proofs.Stopping.{OfStop-weaker}
use Rattle.span_tasks.specs.Summed.{asked_of}
use Rattle.span_tasks.proofs.Adding.{StopsAdding-first}
use Rattle.span_tasks.proofs.place.Place.first_parts.Goals as goal

-- there is no text
pub returns-in-Err-clause-stop : goal.returns-in-Err-clause-stop
returns-in-Err-clause-stop g c = OfStop-weaker _ _ (λ lines no. inl no) c.in-Err.halt c.in-Err.ensures.stop

-- it is no table, or lacks a column or a number
pub returns-clause-stop : goal.returns-clause-stop
returns-clause-stop g c =
    OfStop-weaker _ _ (StopsAdding-first (g.S.Source.bytes c.args.self.now.source.now) c.args.name.now c.in-Ok.text.items (asked_of c.args.options.now) c.in-Err-of_first.fault c.in-Ok.ensures.text
    (rw (c.deref.ensures.value, c.deref-2.ensures.value, c.in-Ok-tested_in.ensures, c.deref-3.ensures.value) at c.in-Err-of_first.ensures.fault)) c.halt_of_part.result c.halt_of_part.ensures

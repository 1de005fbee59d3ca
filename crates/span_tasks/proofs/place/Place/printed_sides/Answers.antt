use Rattle.std.proofs.Common.{◌++◌, inl, inr, arith, ap, sym, ◌∙◌}
use Rattle.span_runs.proofs.Stopping.{OfStop-weaker}
use Rattle.span_tasks.specs.{run_line}
use Rattle.span_tasks.proofs.place.Place.printed_sides.Goals as goal

-- there are too many
pub returns-then-len-ge-TABLES-clause-stop : goal.returns-then-len-ge-TABLES-clause-stop
returns-then-len-ge-TABLES-clause-stop g c =
    let base = rw c.deref.ensures.value at c.in-Ok.ensures.base in
    OfStop-weaker _ _ (λ lines said. inr (record {
      parts = c.in-Ok.printed.kind;
      kind = base.asked;
      base = c.in-Ok.printed.side;
      earlier = base.is;
      own = lines;
      later = inr (omega (arith, c.if-len-ge-TABLES.true), said ∙ ap run_line c.code.ensures);
      said = ap (λ before. before ++ lines) (sym base.is.2);
    })) c.of_run.result c.of_run.ensures

-- one stopped
pub returns-in-Err-tables_of_kind-clause-stop : goal.returns-in-Err-tables_of_kind-clause-stop
returns-in-Err-tables_of_kind-clause-stop g c =
    let base = rw c.deref.ensures.value at c.in-Ok.ensures.base in
    OfStop-weaker _ _ (λ lines stops. inr (record {
      parts = c.in-Ok.printed.kind;
      kind = base.asked;
      base = c.in-Ok.printed.side;
      earlier = base.is;
      own = lines;
      later = inl stops;
      said = ap (λ before. before ++ lines) (sym base.is.2);
    })) c.in-Err-tables_of_kind.halt (rw c.deref-2.ensures.value at c.in-Err-tables_of_kind.ensures.stop)

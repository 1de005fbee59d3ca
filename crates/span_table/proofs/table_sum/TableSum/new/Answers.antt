use Rattle.std.proofs.Common.{List, [], sym, subst, arith}
use Rattle.span_table.specs.{Kept.IsSummed, Tables.SumsByKey, declared.table.Row.Row}
use Rattle.span_table.proofs.{Kept.IsSummed-rows, Rows.RowsRise-rows_of}
use Rattle.span_table.proofs.table_sum.TableSum.new.Goals as goal

pub invariant_of-result : goal.invariant_of-result
invariant_of-result c =
    subst (λ (rows : List Row). IsSummed 0 rows c.new-2.result) (sym c.new.ensures.items)
    (subst (λ (kept : SumsByKey). IsSummed 0 [] kept) (sym c.new-2.ensures) (IsSummed-rows 0 [] (omega arith) (RowsRise-rows_of [])))

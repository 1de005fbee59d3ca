use Rattle.std.proofs.Common.{map, sym, subst}
use Rattle.span_table.specs.{Tables.{AreRowsOf, SumsByKey, row_of}}
use Rattle.span_table.proofs.Mixed.{AreRowsOf-entries}
use Rattle.span_table.proofs.groups.Groups.into_mixed.Goals as goal

pub returns : goal.returns
returns c =
    subst (λ (kept : SumsByKey). AreRowsOf (map row_of kept) c.in_ok-rows.rows.items) c.self.view_is
    (subst (AreRowsOf _) (sym c.in_ok-rows.ensures) (AreRowsOf-entries c.self.inside.kept.entries c.self.invariant))

use Rattle.std.proofs.{Common.{◌≡◌, [], List, sym, subst, arith}, lemmas.{Grind.common_steps, List.nil_from_length}}
use Rattle.span_table.specs.{Tables.AreRowsOf, declared.table.Row.Row}
use Rattle.span_table.proofs.{Kept.rows_with-kept, Mixed.AreRowsOf-rise}
use Rattle.span_table.proofs.table_sum.all_mixed.Goals as goal

pub returns-then-is_empty : goal.returns-then-is_empty
returns-then-is_empty c =
    let mixed = c.in_ok-rows.rows.items in
    let none : c.args.rows.items ≡ [] = nil_from_length c.args.rows.items (grind (arith, common_steps)) in
    subst (λ (rows : List Row). AreRowsOf rows mixed) (sym (rows_with-kept c.args.rows.items c.args.groups none c.requires.kept)) c.in_ok-rows.ensures

pub returns : goal.returns
returns c =
    let all = c.in_ok-rows-2.rows.items in
    subst (λ (rows : List Row). AreRowsOf rows all) c.in_ok-rows-2.ensures.rows (AreRowsOf-rise all c.in_ok-rows-2.ensures.rise)

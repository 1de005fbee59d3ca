use Rattle.std.proofs.{Common.{◌≡◌, ◌++◌, [], sym, ap, subst, ◌∙◌, arith}, lemmas.{Grind.common_steps, List.{append-nil, nil_from_length}}}
use Rattle.span_table.specs.{Adding.keyed_rows, Tables.{RowsRise, rows_of}}
use Rattle.span_table.proofs.{MergedRows.merged-rows_of, OwnRows.rows_of-own, Rows.RowsRise-rows_of}
use Rattle.span_table.proofs.merging.merged.Goals as goal

pub returns-then-is_empty-clause-rows : goal.returns-then-is_empty-clause-rows
returns-then-is_empty-clause-rows c =
    let rows = c.args.rows.items in
    let none : c.args.more.items ≡ [] = nil_from_length c.args.more.items (grind (arith, common_steps)) in
    sym (rows_of-own rows c.requires.rise) ∙ ap rows_of (sym (append-nil (keyed_rows rows))) ∙ ap (λ more. rows_of (keyed_rows rows ++ keyed_rows more)) (sym none)

pub returns-then-is_empty-2-clause-rows : goal.returns-then-is_empty-2-clause-rows
returns-then-is_empty-2-clause-rows c =
    let more = c.args.more.items in
    let none : c.args.rows.items ≡ [] = nil_from_length c.args.rows.items (grind (arith, common_steps)) in
    sym (rows_of-own more c.requires.others) ∙ ap (λ rows. rows_of (keyed_rows rows ++ keyed_rows more)) (sym none)

pub returns : goal.returns
returns c =
    let rows = c.args.rows.items in
    let more = c.args.more.items in
    let all = c.loop-right.all.items in
    let is = sym (append-nil all) ∙ ap (λ rest. all ++ rest) (sym (c.in_ok-row.ensures.all c.in_default.is)) ∙ c.loop-right.invariant in
    let of = is ∙ merged-rows_of rows more c.requires.rise c.requires.others in
    record { rows = of; rise = subst RowsRise (sym of) (RowsRise-rows_of (keyed_rows rows ++ keyed_rows more)) }

use Rattle.std.specs.{List.join_with_byte, Prelude.{flat_map}}
use Rattle.std.proofs.{Common.{◌≡◌, ◌++◌, ◌∷◌, List, map, string_bytes, sym, ap, ◌∙◌, append_assoc}, lemmas.List.take_all}
use Rattle.span_table_text.specs.{right_in, Rows.{Cell, in_column}}
use Rattle.span_table_text.proofs.Joined.{join_with_byte-each}
use Rattle.span_table_text.proofs.rows.put_cells.Goals as goal

-- the first, and each other with a blank before it
pub returns : goal.returns
returns c =
    let before = string_bytes c.args.out.now in
    let later = c.in-Some.later.now in
    let first = in_column c.in-Some.first.now in
    let word : right_in c.first.inside.width c.deref.result.now ≡ first = ap (right_in c.first.inside.width) c.deref.ensures ∙ ap in_column c.first.view_is in
    let blanks = flat_map (λ (cell : Cell). 32 ∷ in_column cell) later in
    (rw (take_all c.loop-cell.cell-index later c.loop-cell-test.false) at c.loop-cell.invariant)
    ∙ ap (λ text. text ++ blanks) (c.in_ok-put_right.ensures ∙ ap (λ text. before ++ text) word)
    ∙ append_assoc before first blanks
    ∙ ap (λ text. before ++ text) (sym (join_with_byte-each 32 in_column c.in-Some.first.now later))
    ∙ ap (λ (cells : List Cell). before ++ join_with_byte 32 (map in_column cells)) (sym c.in-Some.ensures.cases.0)

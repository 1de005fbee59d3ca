use Rattle.std.specs.{List.IsDistinct, Ordering.eq_by_cmp}
use Rattle.std.proofs.{Common.{◌≡◌, length, take, sym, ap, subst, ◌∙◌, append_assoc, arith}, lemmas.{Grind.common_steps}}
use Rattle.span_table_text.specs.{Ranks.{ranked, ranking_order}, Shown.shown_rows}
use Rattle.span_table.proofs.Mixed.{length-AreRowsOf}
use Rattle.span_table_text.proofs.Ranked.{AreRowsOf-shown, IsDistinct-shown, ranked-shown}
use Rattle.span_table_text.proofs.rankings.ranking.Goals as goal

pub first_ranked-first-requires : goal.first_ranked-first-requires
first_ranked-first-requires c =
    subst (IsDistinct (eq_by_cmp (ranking_order c.args.by))) (sym (c.deref_mut.ensures.value ∙ c.in_ok-rows.ensures))
    (IsDistinct-shown c.args.shown.now c.args.table.now.rows c.rows.result.now c.rows.ensures c.args.by)

pub returns : goal.returns
returns c =
    let wanted = c.args.shown.now in
    let rows = c.args.table.now.rows in
    let mixed = c.rows.result.now in
    let counted : length c.in_ok-rows.rows.items ≡ length (shown_rows wanted rows) = ap length c.in_ok-rows.ensures ∙ length-AreRowsOf (shown_rows wanted rows) (shown_rows wanted mixed) (AreRowsOf-shown wanted rows mixed c.rows.ensures) in
    let first : c.first_ranked-first.result.now ≡ take c.args.most (ranked c.args.by (shown_rows wanted rows)) =
    c.first_ranked-first.ensures ∙ ap (λ found. take c.args.most (ranked c.args.by found)) (c.deref_mut.ensures.value ∙ c.in_ok-rows.ensures) ∙ ap (take c.args.most) (ranked-shown wanted rows mixed c.rows.ensures c.args.by) in
    grind (arith, common_steps, append_assoc)

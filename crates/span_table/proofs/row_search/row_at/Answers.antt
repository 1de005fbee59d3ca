use Rattle.std.specs.{Ordering.{is_eq, is_gt}, declared.cmp.Ordering.{Ordering, TheVariants.{Less, Equal, Greater}}}
use Rattle.std.proofs.Common.{◌≡◌, Some, true, true≢false, ap, refl, sym, ◌∙◌}
use Rattle.span_table.proofs.Searched.{found_at-between, found_at-place}
use Rattle.span_table.proofs.row_search.row_at.Goals as goal

equal : (o : Ordering) → is_eq o ≡ true → o ≡ Equal
equal Less is = absurd (true≢false (sym is))
equal Equal is = refl
equal Greater is = absurd (true≢false (sym is))

greater : (o : Ordering) → is_gt o ≡ true → o ≡ Greater
greater Less is = absurd (true≢false (sym is))
greater Equal is = absurd (true≢false (sym is))
greater Greater is = refl

pub returns-then-is_eq : goal.returns-then-is_eq
returns-then-is_eq c =
    let is = equal c.order_at-order.result (sym c.is_eq.ensures ∙ c.if-is_eq.true) in
    ap Some c.row-row.ensures ∙ found_at-place c.args.rows.now c.args.key.now c.requires c.args.place.now c.index-rows-place.result c.index-rows-place.is (sym c.order_at-order.ensures ∙ is)

pub returns-then-is_behind : goal.returns-then-is_behind
returns-then-is_behind c =
    let is = greater c.order_at-order.result (sym c.is_gt.ensures ∙ c.if-is_gt.true) in
    found_at-between c.args.rows.now c.args.key.now c.requires c.args.place.now (sym c.order_at-order.ensures ∙ is) (sym c.is_behind.ensures ∙ c.if-is_behind.true)

use Rattle.std.proofs.{Common.{◌∷◌, ◌++◌, [], ap, ◌∙◌, sym, take, get_or}, lemmas.List.take_more}
use Rattle.span_parts.specs.{picked}
use Rattle.span_parts.proofs.Picked.{picked-append}
use Rattle.span_parts.proofs.sums.key_at.Goals as goal

pub loop-place-preserved : goal.loop-place-preserved
loop-place-preserved c =
    let places = c.args.places.now in
    let key = c.args.key.now in
    let index = c.loop-place.place-index in
    let place = get_or places index 0 in
    c.in_ok-push_value.ensures ∙ ap (λ l. l ++ picked (place ∷ []) key) c.loop-place.invariant
    ∙ sym (picked-append key (take index places) (place ∷ [])) ∙ ap (λ l. picked l key) (sym (take_more places index 0 c.loop-place-test.true))

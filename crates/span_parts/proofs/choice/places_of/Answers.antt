use Rattle.std.specs.Prelude.{slice_get}
use Rattle.std.proofs.{Common.{[], ◌∷◌, ◌++◌, map, take, get_or, Some, sym, ap, ◌∙◌}, lemmas.List.{map-append, take_more}}
use Rattle.span_parts.proofs.Places.{AreAt-each}
use Rattle.span_parts.proofs.choice.places_of.Goals as goal

pub returns-in_default : goal.returns-in_default
returns-in_default c = λ places at.
    let column = c.column-item.result in
    let found = AreAt-each places c.args.wanted.now c.args.columns.now at c.loop-column.column-index column c.loop-column-test.true in
    c.in_default.ensures.missing found.0 (found.1 ∙ ap Some (sym c.column-item.is))

pub loop-column-preserved : goal.loop-column-preserved
loop-column-preserved c =
    let wanted = c.args.wanted.now in
    let columns = c.args.columns.now in
    let column = c.column-item.result in
    let index = c.loop-column.column-index in
    let place = c.in-Some.place in
    ap (map (slice_get columns)) c.in_ok-push.ensures.items ∙ map-append (slice_get columns) c.loop-column.places.items (place ∷ [])
    ∙ ap (λ l. l ++ slice_get columns place ∷ []) c.loop-column.invariant
    ∙ ap (λ o. map Some (take index wanted) ++ o ∷ []) (c.in-Some.ensures.there ∙ ap Some c.column-item.is)
    ∙ sym (ap (map Some) (take_more wanted index column c.loop-column-test.true) ∙ map-append Some (take index wanted) (get_or wanted index column ∷ []))

use Rattle.std.proofs.Common.{◌≡◌, [], ◌∷◌, ◌++◌, map, sym, ap, subst, ◌∙◌, append_assoc}
use Rattle.json.specs.Reads.{token_of}
use Rattle.span_parts.specs.Guess.{MayFollow}
use Rattle.span_parts.proofs.Guessing.{next_column}
use Rattle.span_parts.proofs.guess.+put_columns.Goals as goal

-- the column that was found is the first of those that follow
pub returns-in-Ok : goal.returns-in-Ok
returns-in-Ok t c = λ later rest may is.
    let old = c.args.columns.now.items in
    let next = next_column old later c.in-Some.name.now (map token_of c.in-Some.rest.now) rest may (sym c.in-Some.ensures.text ∙ is) in
    let found = c.in_ok-column.ensures.found next.column next.is next.named in
    let same : c.in-Some-2.column ≡ next.column = cc in
    let items = c.in_ok-push.ensures.items ∙ ap (λ column. old ++ column ∷ []) same in
    let left = c.in-Ok.ensures next.others rest (subst (λ l. MayFollow l next.others) (sym items) next.follow) next.next in
    (left.0, left.1 ∙ ap (λ l. l ++ next.others) items ∙ append_assoc old (next.column ∷ []) next.others ∙ ap (λ l. old ++ l) (sym next.split))

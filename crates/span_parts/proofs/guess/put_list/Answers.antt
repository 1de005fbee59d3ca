use Rattle.std.proofs.Common.{◌++◌, true≢false, map, ap, sym, ◌∙◌}
use Rattle.json.specs.{Reads.token_of, Token.{begin_array}}
use Rattle.span_parts.specs.{Programs, usual_numbers}
use Rattle.span_parts.proofs.Numbered.{list-next, usual-next}
use Rattle.span_parts.proofs.guess.put_list.Goals as goal

pub returns-in_default : goal.returns-in_default
returns-in_default c = λ schema rest kind are is.
    let next = usual-next schema (map token_of c.args.tokens.now) rest (λ more named. c.in_default.ensures.there more named) is in
    (next.0, c.in_ok-extend_from_slice.ensures.items ∙ ap (λ l. l ++ c.numbers.result.now) c.requires ∙ c.numbers.ensures ∙ ap (usual_numbers Programs) (sym kind) ∙ next.1)

pub returns-in_default-after_one : goal.returns-in_default-after_one
returns-in_default-after_one c = λ schema rest kind are is.
    let list = list-next schema (map token_of c.args.tokens.now) rest (λ other more differs next. true≢false (c.in-Some.ensures.missing other more differs next)) is in
    absurd (c.in_default-after_one.ensures begin_array _ (c.in-Some.ensures.there _ list))

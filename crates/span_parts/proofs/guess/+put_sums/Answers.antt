use Rattle.std.proofs.Common.{◌++◌, ap, ap₂, sym, ◌∙◌}
use Rattle.span_table.specs.Sums.{number_by, with_number}
use Rattle.span_table.proofs.Numbers.{number_by-small}
use Rattle.span_parts.specs.{number_tokens, only, sums_tokens}
use Rattle.span_parts.proofs.guess.+put_sums.Goals as goal

pub returns-in_err-value : goal.returns-in_err-value
returns-in_err-value t c = λ sums rest fits is.
    let first = c.in-Some.number.now in
    let later = c.in-Some.numbers.now in
    let next = is ∙ ap (λ numbers. sums_tokens numbers sums ++ rest) c.in-Some.ensures.cases.0 ∙ ap (λ name. number_tokens name (number_by first sums) ++ (sums_tokens later sums ++ rest)) (sym c.name.ensures) in
    absurd (c.in_err-value.ensures (number_by first sums) (sums_tokens later sums ++ rest) (number_by-small first sums fits) next)

pub returns-in_err-rest : goal.returns-in_err-rest
returns-in_err-rest t c = λ sums rest fits is.
    let first = c.in-Some.number.now in
    let later = c.in-Some.numbers.now in
    let next = is ∙ ap (λ numbers. sums_tokens numbers sums ++ rest) c.in-Some.ensures.cases.0 ∙ ap (λ name. number_tokens name (number_by first sums) ++ (sums_tokens later sums ++ rest)) (sym c.name.ensures) in
    let found = c.in_ok-value.ensures (number_by first sums) (sums_tokens later sums ++ rest) (number_by-small first sums fits) next in
    absurd (c.in_err-rest.ensures sums rest fits found.1).0

-- the first number, and then the others
pub returns : goal.returns
returns t c = λ sums rest fits is.
    let first = c.in-Some.number.now in
    let later = c.in-Some.numbers.now in
    let split = c.in-Some.ensures.cases.0 in
    let next = is ∙ ap (λ numbers. sums_tokens numbers sums ++ rest) split ∙ ap (λ name. number_tokens name (number_by first sums) ++ (sums_tokens later sums ++ rest)) (sym c.name.ensures) in
    let found = c.in_ok-value.ensures (number_by first sums) (sums_tokens later sums ++ rest) (number_by-small first sums fits) next in
    let others = c.in_ok-rest.ensures sums rest fits found.1 in
    (others.0, c.put.ensures ∙ ap₂ (with_number first) (c.from.ensures ∙ found.0) others.1 ∙ ap (λ numbers. only numbers sums) (sym split))

use Rattle.std.proofs.Common.{◌∙◌, ◌==◌, ap, length, sym}
use Rattle.span_request.proofs.ShownNumbers.{go_with-none}
use Rattle.span_request.proofs.numbers.numbers_go_with.Goals as goal

pub returns-then-is_empty : goal.returns-then-is_empty
returns-then-is_empty c = c.goes_by.ensures ∙ go_with-none c.args.asked.now c.args.of c.args.own.now (ap (λ named. length named == 0) (sym c.as_slice-named.ensures.value) ∙ sym c.is_empty.ensures ∙ c.if-is_empty.true)

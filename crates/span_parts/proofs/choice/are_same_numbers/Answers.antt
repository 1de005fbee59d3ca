use Rattle.std.proofs.Common.{ap, sym, ◌∙◌}
use Rattle.span_table.proofs.Numbers.{are_same-own, are_same-same}
use Rattle.span_parts.specs.{are_same}
use Rattle.span_parts.proofs.choice.are_same_numbers.Goals as goal

pub returns : goal.returns
returns c = (
  (λ yes. are_same-same c.args.numbers.now c.args.others.now (sym c.are_same.ensures ∙ yes)),
  λ same. c.are_same.ensures ∙ ap (are_same c.args.numbers.now) (sym same) ∙ are_same-own c.args.numbers.now,
)

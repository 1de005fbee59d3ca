use Rattle.std.specs.Prelude.{filter, IfOk}
use Rattle.std.proofs.Common.{rules, ◌≡◌, List, ◌∷◌, ◌++◌, subst}
use Rattle.span_comparisons.specs.{Number, has_number, is_time}
use Rattle.span_comparisons.proofs.numbers.order_numbers.Goals as goal

-- the search follows a chain to a list of counts, but not to their filter written out
pub returns : goal.returns
returns c =
    let numbers = c.args.numbers.now in
    let listed = λ (counts : List Number). IfOk c.collect.result (λ order. order.items ≡ c.args.by ∷ (filter is_time numbers ++ filter (has_number numbers) counts)) in
    let found : listed c.iter-2.result.rest.now = search rules in
    subst listed c.iter-2.ensures.rest found

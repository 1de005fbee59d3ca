use Rattle.std.proofs.{Common.{◌<◌, List, subst}, lemmas.Bool.ltb-true}
use Rattle.span_stack_sums.specs.{Row, most_names, Text.labels_in}
use Rattle.span_stack_sums.proofs.KeptRows.{labels-full}
use Rattle.span_stack_sums.proofs.stack_rows.StackRows.are_full.Goals as goal

pub returns : goal.returns
returns c = λ full.
    let own = c.self.inside in
    subst (λ (rows : List Row). most_names < labels_in rows) c.self.view_is (labels-full own.rows.items own.groups own.labels c.self.invariant (ltb-true most_names own.labels full))

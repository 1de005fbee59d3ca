use Rattle.std.specs.Prelude.{Option, None}
use Rattle.std.proofs.Common.{◌+◌, List, refl, sym, ap, subst, ◌∙◌, arith}
use Rattle.span_stack_sums.specs.{Row, Stacks.{SummedStacks, TakesJournal, journal_sums}}
use Rattle.span_stack_sums.proofs.Labels.{labels-before}
use Rattle.span_stack_sums.proofs.stack_sum.StackSum.add_run.Goals as goal

-- too many labels stay too many
pub returns-in_default-clause-added : goal.returns-in_default-clause-added
returns-in_default-clause-added c =
    let columns = c.args.columns.now in
    let journal = c.args.ledger.now.journal in
    let parts = c.self.inside.parts in
    subst (λ (old : SummedStacks). TakesJournal columns journal old (record { rows = None; parts = parts + 1 }))
    (ap (λ (rows : Option (List Row)). record { rows = rows; parts = parts }) (sym c.in_default.is) ∙ c.self.view_is)
    (record { rows = λ sums full. omega (arith, full, labels-before sums (journal_sums columns journal)); parts = refl })

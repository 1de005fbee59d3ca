use Rattle.std.proofs.Common.{inl, inr, arith}
use Rattle.span_stack_sums.specs.Stacks.{ticks_alone}
use Rattle.span_stack_sums.proofs.KeptRows.{IsKept-taken, TakesSums-kept}
use Rattle.span_stack_sums.proofs.stack_rows.StackRows.put.Goals as goal

-- its labels are counted if the key is new
pub invariant_of-self-then-branch : goal.invariant_of-self-then-branch
invariant_of-self-then-branch c =
    let own = c.self.inside in
    IsKept-taken own.rows.items own.groups c.put.new.self (record { key = c.args.key; step = c.ticks.result }) own.labels c.saturating_add-self-inside.result c.self.invariant c.in_ok-put.ensures.takes
    (inr (c.in_ok-put.ensures.new c.if-branch.true, omega (arith, c.saturating_add-self-inside.ensures, c.labels_of-labels.ensures)))

pub invariant_of-self-else-branch : goal.invariant_of-self-else-branch
invariant_of-self-else-branch c =
    let own = c.self.inside in
    IsKept-taken own.rows.items own.groups c.put.new.self (record { key = c.args.key; step = c.ticks.result }) own.labels own.labels c.self.invariant c.in_ok-put.ensures.takes (inl (omega arith))

pub returns-then-branch : goal.returns-then-branch
returns-then-branch c =
    let own = c.self.inside in
    TakesSums-kept own.rows.items own.groups c.put.new.self c.args.key c.ticks.result (ticks_alone c.args.time) c.args.self.now c.self.invariant.kept_rise c.in_ok-put.ensures.takes c.ticks.ensures c.self.view_is

pub returns-else-branch : goal.returns-else-branch
returns-else-branch c =
    let own = c.self.inside in
    TakesSums-kept own.rows.items own.groups c.put.new.self c.args.key c.ticks.result (ticks_alone c.args.time) c.args.self.now c.self.invariant.kept_rise c.in_ok-put.ensures.takes c.ticks.ensures c.self.view_is

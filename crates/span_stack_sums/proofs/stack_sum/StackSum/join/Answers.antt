use Rattle.std.specs.Prelude.{Option, None, Some}
use Rattle.std.proofs.Common.{◌+◌, List, sym, ap, subst, ◌∙◌}
use Rattle.span_stack_sums.specs.{Row, Stacks.{JoinsSums, SummedStacks}}
use Rattle.span_stack_sums.proofs.StackSums.{JoinsSums-behind, JoinsSums-both, JoinsSums-none}
use Rattle.span_stack_sums.proofs.stack_sum.StackSum.join.Goals as goal

pub returns-in_default-clause-added : goal.returns-in_default-clause-added
returns-in_default-clause-added c =
    let one = c.self.inside in
    let two = c.other.inside in
    let both : SummedStacks = record { rows = None; parts = one.parts + two.parts } in
    let mine : SummedStacks = record { rows = None; parts = one.parts } in
    let its : SummedStacks = record { rows = two.rows; parts = two.parts } in
    subst (λ (o : SummedStacks). JoinsSums o c.args.other both) (ap (λ (rows : Option (List Row)). record { rows = rows; parts = one.parts }) (sym c.in_default.is) ∙ c.self.view_is)
    (subst (λ (t : SummedStacks). JoinsSums mine t both) c.other.view_is (JoinsSums-none two.rows one.parts two.parts))

pub returns-in_default-its-clause-added : goal.returns-in_default-its-clause-added
returns-in_default-its-clause-added c =
    let one = c.self.inside in
    let two = c.other.inside in
    let both : SummedStacks = record { rows = None; parts = one.parts + two.parts } in
    let mine : SummedStacks = record { rows = Some c.in-Some.mine; parts = one.parts } in
    subst (λ (o : SummedStacks). JoinsSums o c.args.other both) (ap (λ (rows : Option (List Row)). record { rows = rows; parts = one.parts }) (sym c.in-Some.is) ∙ c.self.view_is)
    (subst (λ (t : SummedStacks). JoinsSums mine t both) (ap (λ (rows : Option (List Row)). record { rows = rows; parts = two.parts }) (sym c.in_default-its.is) ∙ c.other.view_is) (JoinsSums-behind c.in-Some.mine one.parts two.parts))

pub returns-clause-added : goal.returns-clause-added
returns-clause-added c =
    let one = c.self.inside in
    let two = c.other.inside in
    let all = c.in_ok-join.field-0 in
    let both : SummedStacks = record { rows = Some all; parts = one.parts + two.parts } in
    let mine : SummedStacks = record { rows = Some c.in-Some.mine; parts = one.parts } in
    subst (λ (o : SummedStacks). JoinsSums o c.args.other both) (ap (λ (rows : Option (List Row)). record { rows = rows; parts = one.parts }) (sym c.in-Some.is) ∙ c.self.view_is)
    (subst (λ (t : SummedStacks). JoinsSums mine t both) (ap (λ (rows : Option (List Row)). record { rows = rows; parts = two.parts }) (sym c.in-Some-its.is) ∙ c.other.view_is)
    (JoinsSums-both c.in-Some.mine c.in-Some-its.its all one.parts two.parts c.in_ok-join.ensures))

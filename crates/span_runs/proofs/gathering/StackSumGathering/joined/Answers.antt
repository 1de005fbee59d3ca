use Rattle.std.proofs.{Common.{◌≡◌, ◌+◌, ◌≤◌, ◌^◌, ◌++◌, List, length, arith}, lemmas.Result.{IfErr-weaker, IfOk-weaker}}
use Rattle.span_stack_sums.proofs.StackSums.{IsStackSum-joined}
use Rattle.span_runs.specs.{Run, IsStackSum, JoinsSums, SumFault, TooMany}
use Rattle.span_runs.proofs.gathering.StackSumGathering.joined.Goals as goal

pub returns-clause-runs : goal.returns-clause-runs
returns-clause-runs c =
    IfOk-weaker c.join.result (JoinsSums c.args.self c.args.other)
    (λ both. (by : _) (runs others : List Run) → IsStackSum by.items runs c.args.self → IsStackSum by.items others c.args.other → IsStackSum by.items (runs ++ others) both)
    (λ both joins by runs others is are. IsStackSum-joined by.items runs others c.args.self c.args.other both joins is are)
    c.join.ensures.added

-- both sums count their runs
pub returns-clause-too_many : goal.returns-clause-too_many
returns-clause-too_many c =
    IfErr-weaker c.join.result (λ (fault : SumFault). fault ≡ TooMany → 2 ^ 32 ≤ c.args.self.parts + c.args.other.parts)
    (λ (fault : SumFault). fault ≡ TooMany → (by : _) (runs others : List Run) → IsStackSum by.items runs c.args.self → IsStackSum by.items others c.args.other → 2 ^ 32 ≤ length runs + length others)
    (λ fault few many by runs others is are. omega (arith, few many, is.parts, are.parts))
    c.join.ensures.too_many

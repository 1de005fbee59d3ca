use Rattle.std.proofs.{Common.{◌≡◌, ◌+◌, ◌≤◌, ◌^◌, List, length, arith}, lemmas.Result.{IfErr-weaker, IfOk-weaker}}
use Rattle.span_stack_sums.proofs.StackSums.{IsStackSum-taken}
use Rattle.span_runs.specs.{Run, IsStackSum, SumFault, TakesJournal, TooMany, Apart.run_of, Gathering.TakesAlike}
use Rattle.span_runs.proofs.gathering.StackSumGathering.with_run.Goals as goal

-- the stacks of the run are added, or of one that is alike
pub returns-clause-runs : goal.returns-clause-runs
returns-clause-runs c =
    let run = run_of c.args.run.now in
    let columns = c.args.columns.now.items in
    IfOk-weaker c.add_run.result (TakesJournal columns run.journal c.args.self) (TakesAlike (IsStackSum columns) c.args.self run)
    (λ more takes runs other alike is. IsStackSum-taken columns runs run other c.args.self more alike takes is)
    (rw c.deref.ensures.value at c.add_run.ensures.added)

-- the sum counts the runs before
pub returns-clause-too_many : goal.returns-clause-too_many
returns-clause-too_many c =
    IfErr-weaker c.add_run.result (λ (fault : SumFault). fault ≡ TooMany → 2 ^ 32 ≤ c.args.self.parts + 1)
    (λ (fault : SumFault). fault ≡ TooMany → (runs : List Run) → IsStackSum c.args.columns.now.items runs c.args.self → 2 ^ 32 ≤ length runs + 1)
    (λ fault few many runs is. omega (arith, few many, is.parts))
    c.add_run.ensures.too_many

use Rattle.std.proofs.{Common.{◌≡◌, ◌+◌, ◌≤◌, ◌^◌, List, [], ◌∷◌, length, arith}, lemmas.Result.{IfErr-weaker, IfOk-weaker}}
use Rattle.span_runs.specs.{Run, IsSumOf, SumFault, TakesRuns, TooMany, Apart.run_of, Gathering.TakesAlike}
use Rattle.span_runs.proofs.AlikeRuns.{IsSumOf-last}
use Rattle.span_runs.proofs.gathering.TableSumGathering.with_run.Goals as goal

-- the run is added, or one that is alike
pub returns-clause-runs : goal.returns-clause-runs
returns-clause-runs c =
    let run = run_of c.args.run.now in
    IfOk-weaker c.add_run.result (TakesRuns c.args.self (run ∷ [])) (TakesAlike (IsSumOf c.args._schema.now) c.args.self run)
    (λ more takes runs other alike is. IsSumOf-last c.args._schema.now runs run other more alike (takes c.args._schema.now runs is))
    (rw c.unread.ensures at c.add_run.ensures.runs)

-- the sum counts the runs before
pub returns-clause-too_many : goal.returns-clause-too_many
returns-clause-too_many c =
    IfErr-weaker c.add_run.result (λ (fault : SumFault). fault ≡ TooMany → 2 ^ 32 ≤ c.args.self.parts + 1)
    (λ (fault : SumFault). fault ≡ TooMany → (runs : List Run) → IsSumOf c.args._schema.now runs c.args.self → 2 ^ 32 ≤ length runs + 1)
    (λ fault few many runs is. omega (arith, few many, is.parts))
    c.add_run.ensures.too_many

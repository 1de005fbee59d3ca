use Rattle.std.proofs.{Common.{◌≡◌, ◌+◌, ◌≤◌, ◌^◌, List, length, arith}, lemmas.Result.IfErr-weaker}
use Rattle.span_runs.specs.{Schema, Run, IsSumOf, SumFault, TooMany}
use Rattle.span_runs.proofs.gathering.TableSumGathering.joined.Goals as goal

-- both sums count their runs
pub returns-clause-too_many : goal.returns-clause-too_many
returns-clause-too_many c =
    IfErr-weaker c.join.result (λ (fault : SumFault). fault ≡ TooMany → 2 ^ 32 ≤ c.args.self.parts + c.args.other.parts)
    (λ (fault : SumFault). fault ≡ TooMany → (schema : Schema) (runs others : List Run) → IsSumOf schema runs c.args.self → IsSumOf schema others c.args.other → 2 ^ 32 ≤ length runs + length others)
    (λ fault few many schema runs others is are. omega (arith, few many, is.parts, are.parts))
    c.join.ensures.too_many

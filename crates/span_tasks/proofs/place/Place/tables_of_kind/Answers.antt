use Rattle.std.proofs.lemmas.Result.{IfOk-weaker}
use Rattle.std.proofs.Common.{◌≡◌, [], ◌∷◌}
use Rattle.span_tasks.proofs.Adding.{Adds-beside}
use Rattle.span_tasks.proofs.place.Place.tables_of_kind.Goals as goal

-- all are added
pub returns-in-Ok-sum_beside-clause-tables : goal.returns-in-Ok-sum_beside-clause-tables
returns-in-Ok-sum_beside-clause-tables g c =
    let sum = c.in-Ok-sum_beside.sum in
    rw c.if-taking.false (IfOk-weaker c.only_sum.result (λ tables. tables.items ≡ sum.sum ∷ []) _ (λ tables is. (sum.sum, Adds-beside (g.S.Source.bytes c.args.self.now.source.now) c.args.kind.now c.args.names.now sum c.in-Ok-sum_beside.ensures, is)) c.only_sum.ensures.tables)

-- one stopped
pub returns-in-Err-sum_beside-clause-stop : goal.returns-in-Err-sum_beside-clause-stop
returns-in-Err-sum_beside-clause-stop g c = rw c.if-taking.false c.in-Err-sum_beside.ensures

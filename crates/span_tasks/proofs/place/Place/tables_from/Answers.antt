use Rattle.std.proofs.lemmas.Result.{IfOk-weaker}
use Rattle.std.proofs.Common.{◌≡◌, [], ◌∷◌}
use Rattle.span_runs.proofs.Stopping.{OfStop-weaker}
use Rattle.span_tasks.proofs.Adding.{Adds-beside, StopsLater-each}
use Rattle.span_tasks.proofs.place.Place.tables_from.Goals as goal

-- one of those behind the first stopped
pub returns-in-Err-clause-stop : goal.returns-in-Err-clause-stop
returns-in-Err-clause-stop g c =
    rw c.if-taking.true (OfStop-weaker _ _ (λ lines stops name begins. StopsLater-each (g.S.Source.bytes c.args.self.now.source.now) name c.args.later.now c.args.first lines begins stops) c.in-Err.halt c.in-Err.ensures.stop)

-- all are added
pub returns-in-Ok-sum_from-clause-tables : goal.returns-in-Ok-sum_from-clause-tables
returns-in-Ok-sum_from-clause-tables g c =
    let source = (g.S.Source.bytes c.args.self.now.source.now) in
    let first = c.args.first in
    let sum = c.in-Ok-sum_from.sum in
    rw c.if-taking.false (IfOk-weaker c.only_sum.result (λ tables. tables.items ≡ sum.sum ∷ []) _
    (λ tables is name begins. (sum.sum, Adds-beside source first (name ∷ c.args.later.now) sum (c.in-Ok-sum_from.ensures name begins), is))
    c.only_sum.ensures.tables)

-- one of those that are added stopped
pub returns-in-Err-sum_from-clause-stop : goal.returns-in-Err-sum_from-clause-stop
returns-in-Err-sum_from-clause-stop g c = rw c.if-taking.false c.in-Err-sum_from.ensures

use Rattle.std.proofs.{Common.{[], ◌∷◌}, lemmas.Result.{MatchResult-weaker}}
use Rattle.span_runs.proofs.Stopping.{OfStop-weaker}
use Rattle.span_tasks.proofs.Adding.{AddsBeside-append, AddsBeside-first, StopsLater-behind}
use Rattle.span_tasks.proofs.place.Place.sum_from.Goals as goal

-- one of those that are added stopped
pub returns-in-Err : goal.returns-in-Err
returns-in-Err g c =
    let source = (g.S.Source.bytes c.args.self.now.source.now) in
    let first = c.args.first in
    OfStop-weaker _ _ (λ lines stops name begins. StopsLater-behind source first (name ∷ []) c.args.later.now first lines (AddsBeside-first source name first begins) stops) c.in-Err.halt c.in-Err.ensures

-- all are added
pub returns-in-Ok-join : goal.returns-in-Ok-join
returns-in-Ok-join g c = λ name begins.
    let source = (g.S.Source.bytes c.args.self.now.source.now) in
    let first = c.args.first in
    AddsBeside-append source first (name ∷ []) c.args.later.now first c.in-Ok.rest c.in-Ok-join.sum (AddsBeside-first source name first begins) c.in-Ok.ensures c.in-Ok-join.ensures

-- they are added to the first, one after another
pub returns-then-jobs_of-eq1 : goal.returns-then-jobs_of-eq1
returns-then-jobs_of-eq1 g c =
    let source = (g.S.Source.bytes c.args.self.now.source.now) in
    let first = c.args.first in
    MatchResult-weaker c.add_here.result c.add_here.ensures
    (λ sum adds name begins. adds first (name ∷ []) (AddsBeside-first source name first begins))
    (λ halt. OfStop-weaker _ _ (λ lines stops name begins. stops first (name ∷ []) (AddsBeside-first source name first begins)) halt)

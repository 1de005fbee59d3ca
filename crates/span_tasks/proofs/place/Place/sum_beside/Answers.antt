use Rattle.std.proofs.Common.{List, rules}
use Rattle.span_runs.proofs.Sharing.{Becomes-divided}
use Rattle.span_tasks.specs.{Name, Sides.{AddsOrStops, JoinsSums}}
use Rattle.span_tasks.proofs.place.Place.sum_beside.Goals as goal

-- what becomes of their parts is joined
pub returns : goal.returns
returns g c =
    let source = g.S.Source.bytes c.args.self.now.source.now in
    Becomes-divided (λ (names : List Name). AddsOrStops source c.args.kind.now names) c.args.names.now _ c.in_jobs.result (rw (← c.deref.ensures.value) at c.in-Ok.ensures) c.in_jobs.ensures
    (λ from to result takes. search rules)
    (λ names more first second result one other joins.
    let both : JoinsSums first second result = search rules in
    both source c.args.kind.now names more one other)

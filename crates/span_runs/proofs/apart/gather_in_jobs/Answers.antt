use Rattle.std.proofs.Common.{List, rules}
use Rattle.span_runs.specs.{Runs.shortened, Stops.{GathersOrStops, JoinsFiles}, declared.source.Name.Name}
use Rattle.span_runs.proofs.Sharing.{Becomes-divided}
use Rattle.span_runs.proofs.apart.gather_in_jobs.Goals as goal

-- what becomes of their parts is joined
pub returns : goal.returns
returns g c =
    let work = c.args.work.now in
    let source = g.S.Source.bytes work.source.now in
    let ComeTo = shortened work.cut (g.T.Gathering.come_to work.by.now) in
    Becomes-divided (λ (names : List Name). GathersOrStops source names work.settings ComeTo) c.args.names.now _ c.in_jobs.result c.requires c.in_jobs.ensures
    (λ from to result takes. search rules)
    (λ names more first second result one other joins.
    let both : JoinsFiles g.T.Gathering.come_to first second result = search rules in
    both source names more work.settings work.by.now work.cut one other)

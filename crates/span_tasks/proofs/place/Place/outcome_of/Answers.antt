use Rattle.std.proofs.lemmas.Result.{IfOk-weaker}
use Rattle.span_tasks.specs.{Outcome.IsOf, Requests.{PrintsNamed, StopsNamed}}
use Rattle.span_tasks.proofs.Outcomes.{Ends-of}
use Rattle.span_tasks.proofs.place.Place.outcome_of.Goals as goal

-- what a task prints of what is named, or what is said
pub returns-in-Run-clause-outcome : goal.returns-in-Run-clause-outcome
returns-in-Run-clause-outcome g c =
    rw c.in-Run.is (IfOk-weaker c.of.result (IsOf c.print_named.result) _
    (λ outcome is. Ends-of (PrintsNamed (g.S.Source.bytes c.args.self.now.source.now) (g.S.Source.folders c.args.self.now.source.now) c.in-Run.task c.in-Run.files) (StopsNamed (g.S.Source.bytes c.args.self.now.source.now) (g.S.Source.folders c.args.self.now.source.now) c.in-Run.task c.in-Run.files) c.print_named.result outcome is c.print_named.ensures) c.of.ensures)

pub returns-in-Run-clause-hints : goal.returns-in-Run-clause-hints
returns-in-Run-clause-hints g c =
    IfOk-weaker c.of.result (IsOf c.print_named.result) _
    (λ outcome is. (Ends-of (PrintsNamed (g.S.Source.bytes c.args.self.now.source.now) (g.S.Source.folders c.args.self.now.source.now) c.in-Run.task c.in-Run.files) (StopsNamed (g.S.Source.bytes c.args.self.now.source.now) (g.S.Source.folders c.args.self.now.source.now) c.in-Run.task c.in-Run.files) c.print_named.result outcome is c.print_named.ensures).0) c.of.ensures

use Rattle.std.proofs.Common.{drop, inr, ap, sym, ◌∙◌}
use Rattle.span_runs.proofs.{Alone.{AddsFile-run, IsFileRun-shorter}, Stopping.{IsTooMany-shortened, OfStop-weaker}}
use Rattle.span_tasks.specs.{Input, Pages.IsPageSum}
use Rattle.span_tasks.proofs.ShownRuns.{TakesRun-alone}
use Rattle.span_tasks.proofs.place.Place.show_file.Goals as goal

-- its run is added, and shown
pub returns-in-Ok-with_run-2 : goal.returns-in-Ok-with_run-2
returns-in-Ok-with_run-2 g c =
    let source = (g.S.Source.bytes c.args.self.now.source.now) in
    let name = c.args.name.now in
    let settings = c.args.settings.now in
    let view = c.args.view.now in
    let cut = c.args.cut in
    let taken = c.in-Ok-shorter.taken in
    let shorter = c.in-Ok-shorter.ensures in
    let is = IsFileRun-shorter source name settings cut c.in-Ok.taken taken c.in-Ok.ensures.collected shorter in
    let label = shorter.label ∙ ap (λ (file : Input). drop cut file.name) (sym shorter.file) in
    let old = c.args.shown in record {
      adds = AddsFile-run source name settings cut (IsPageSum view) taken old.summed c.in-Ok-with_run-2.summed is label c.in-Ok-with_run-2.ensures.runs c.in-Ok-with_run-2.ensures.said;
      page = TakesRun-alone view.labels.items source name settings taken old.page c.in-Ok-with_run.page is c.in-Ok-with_run.ensures;
    }

-- there are too many
pub returns : goal.returns
returns g c =
    OfStop-weaker _ _ (λ lines many. inr (IsTooMany-shortened c.args.cut (IsPageSum c.args.view.now) c.args.shown.summed.runs 1 c.args.shown.summed.said.lines.items lines many)) c.in-Err-with_run.halt c.in-Err-with_run.ensures.stop

use Rattle.std.proofs.Common.{drop, inl, inr, refl, sym, ap, ◌∙◌}
use Rattle.span_runs.specs.{Input, Stops.StopsAt}
use Rattle.span_runs.proofs.{Alone.{AddsFile-run, IsFileRun-shorter}, Stopping.{IsTooMany-shortened, OfStop-after, OfStop-weaker}}
use Rattle.span_runs.proofs.apart.add_file.Goals as goal

-- its run is added
pub returns-in-Ok-with_run : goal.returns-in-Ok-with_run
returns-in-Ok-with_run g c =
    let source = g.S.Source.bytes c.args.work.now.source.now in
    let name = c.args.name.now in
    let work = c.args.work.now in
    let run = c.in-Ok-shorter.collected in
    let shorter = c.in-Ok-shorter.ensures in
    AddsFile-run source name work.settings work.cut (g.T.Gathering.come_to work.by.now) run c.args.gathered c.in-Ok-with_run.more
    (IsFileRun-shorter source name work.settings work.cut c.in-Ok.collected run c.in-Ok.ensures.collected shorter) (shorter.label ∙ ap (λ (file : Input). drop work.cut file.name) (sym shorter.file))
    c.in-Ok-with_run.ensures.runs c.in-Ok-with_run.ensures.said

-- it stopped
pub returns-in-Err : goal.returns-in-Err
returns-in-Err g c =
    OfStop-after (StopsAt (g.S.Source.bytes c.args.work.now.source.now) c.args.work.now.settings c.args.name.now) _ c.args.gathered.said.lines.items (λ own stops. inl (own, stops, refl))
    c.in-Err.halt c.after.result c.after.ensures c.in-Err.ensures.stop

-- there are too many
pub returns : goal.returns
returns g c = OfStop-weaker _ _ (λ lines many. inr (IsTooMany-shortened c.args.work.now.cut (g.T.Gathering.come_to c.args.work.now.by.now) c.args.gathered.runs 1 c.args.gathered.said.lines.items lines many)) c.in-Err-with_run.halt c.in-Err-with_run.ensures.stop

use Rattle.std.proofs.{Common.{take, sym}, lemmas.List.{take_more}}
use Rattle.span_runs.specs.{Runs.shortened, Stops.StopsAmong}
use Rattle.span_runs.proofs.{GatheredFiles.{AreGathered-none, AreGathered-push}, Stopping.{OfStop-weaker, StopsAmong-at}}
use Rattle.span_runs.proofs.apart.gather_in_job.Goals as goal

-- no file is gathered
pub loop-name-init : goal.loop-name-init
loop-name-init g c =
    AreGathered-none (g.S.Source.bytes c.args.work.now.source.now) c.args.work.now.settings (λ runs. shortened c.args.work.now.cut (g.T.Gathering.come_to c.args.work.now.by.now) runs c.in-Ok.none.runs) c.in-Ok.none.said c.in-Ok.ensures.runs c.in-Ok.ensures.lines c.in-Ok.ensures.warnings

-- the next one is
pub loop-name-preserved : goal.loop-name-preserved
loop-name-preserved g c =
    rw (take_more c.args.names.now c.loop-name.name-index c.name-item.result c.loop-name-test.true, sym c.name-item.is)
    (AreGathered-push (g.S.Source.bytes c.args.work.now.source.now) (take c.loop-name.name-index c.args.names.now) c.name-item.result c.args.work.now.settings (shortened c.args.work.now.cut (g.T.Gathering.come_to c.args.work.now.by.now)) c.loop-name.gathered c.in-Ok-add_file.more c.loop-name.invariant c.in-Ok-add_file.ensures)

-- something stopped at the next one
pub returns-in-Err : goal.returns-in-Err
returns-in-Err g c =
    let source = g.S.Source.bytes c.args.work.now.source.now in
    let settings = c.args.work.now.settings in
    OfStop-weaker _ (StopsAmong source settings c.args.names.now)
    (StopsAmong-at source settings c.args.names.now c.loop-name.name-index c.name-item.result (shortened c.args.work.now.cut (g.T.Gathering.come_to c.args.work.now.by.now)) c.loop-name.gathered c.loop-name-test.true c.name-item.is c.loop-name.invariant)
    c.in-Err.halt c.in-Err.ensures

use Rattle.std.proofs.{Common.{take, sym}, lemmas.List.{take_all, take_more}}
use Rattle.span_runs.proofs.Stopping.{OfStop-weaker, StopsAmong-at}
use Rattle.span_tasks.specs.{shortened, Pages.IsPageSum}
use Rattle.span_tasks.proofs.ShownRuns.{AreHeld-none, AreHeld-push}
use Rattle.span_tasks.proofs.place.Place.show_in_turn.Goals as goal

-- no file is held
pub loop-name-init : goal.loop-name-init
loop-name-init g c =
    AreHeld-none (g.S.Source.bytes c.args.self.now.source.now) c.args.cut c.args.settings.now c.args.view.now c.in-Ok.none c.in-Ok.ensures.sum c.in-Ok.ensures.lines c.in-Ok.ensures.warnings (c.in-Ok.ensures.runs c.args.settings.now.format.unit)

-- all are
pub returns-clause-shown : goal.returns-clause-shown
returns-clause-shown g c = rw (take_all c.loop-name.name-index c.args.names.now c.loop-name-test.false) at c.loop-name.invariant

-- the next one stopped
pub returns-in-Err-show_file-clause-stop : goal.returns-in-Err-show_file-clause-stop
returns-in-Err-show_file-clause-stop g c =
    OfStop-weaker _ _ (StopsAmong-at (g.S.Source.bytes c.args.self.now.source.now) c.args.settings.now c.args.names.now c.loop-name.name-index c.name-item.result (shortened c.args.cut (IsPageSum c.args.view.now)) c.loop-name.shown.summed
    c.loop-name-test.true c.name-item.is c.loop-name.invariant.sums) c.in-Err-show_file.halt c.in-Err-show_file.ensures

-- the next one is
pub loop-name-preserved : goal.loop-name-preserved
loop-name-preserved g c =
    rw (take_more c.args.names.now c.loop-name.name-index c.name-item.result c.loop-name-test.true, sym c.name-item.is)
    (AreHeld-push (g.S.Source.bytes c.args.self.now.source.now) c.args.cut c.args.settings.now c.args.view.now (take c.loop-name.name-index c.args.names.now) c.name-item.result
    c.loop-name.shown c.in-Ok-show_file.more c.loop-name.invariant c.in-Ok-show_file.ensures)

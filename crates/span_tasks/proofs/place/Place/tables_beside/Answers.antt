use Rattle.std.proofs.{Common.{take, sym}, lemmas.List.{take_more}}
use Rattle.span_runs.proofs.Stopping.{OfStop-weaker}
use Rattle.span_tasks.proofs.Adding.{AddsEach-push, StopsLater-at}
use Rattle.span_tasks.proofs.place.Place.tables_beside.Goals as goal

-- the next one is read
pub loop-name-preserved : goal.loop-name-preserved
loop-name-preserved g c =
    rw (c.in-Ok-push.ensures.items, take_more c.args.names.now c.loop-name.name-index c.name-item.result c.loop-name-test.true, sym c.name-item.is)
    (AddsEach-push (g.S.Source.bytes c.args.self.now.source.now) c.args.parts.now (take c.loop-name.name-index c.args.names.now) c.name-item.result c.loop-name.tables.items c.in-Ok-table_beside.table
    c.loop-name.invariant c.in-Ok-table_beside.ensures.table)

-- at the next one
pub returns-in-Err-clause-stop : goal.returns-in-Err-clause-stop
returns-in-Err-clause-stop g c =
    OfStop-weaker _ _ (λ lines. StopsLater-at (g.S.Source.bytes c.args.self.now.source.now) c.args.names.now c.loop-name.name-index c.name-item.result c.args.parts.now c.loop-name.tables.items lines
    c.loop-name-test.true c.name-item.is c.loop-name.invariant) c.in-Err.halt c.in-Err.ensures.stop

use Rattle.std.proofs.{Common.{[], ◌∷◌, Contains, take, subst, sym}, lemmas.List.{take_more, Elements.Contains-get_or}}
use Rattle.span_runs.proofs.Stopping.{OfStop-weaker}
use Rattle.span_tasks.specs.{IsInput}
use Rattle.span_tasks.proofs.Adding.{AllZip-append}
use Rattle.span_tasks.proofs.place.Place.read_inputs.Goals as goal

-- the next one is read
pub loop-name-preserved : goal.loop-name-preserved
loop-name-preserved g c =
    rw (c.in-Ok-push.ensures.items, take_more c.args.names.now c.loop-name.name-index c.name-item.result c.loop-name-test.true, sym c.name-item.is)
    (AllZip-append (IsInput (g.S.Source.bytes c.args.self.now.source.now) c.args.settings.now) (take c.loop-name.name-index c.args.names.now) (c.name-item.result ∷ []) c.loop-name.inputs.items (c.in-Ok-read_input.input ∷ []) c.loop-name.invariant (c.in-Ok-read_input.ensures.read, tt))

-- one was not
pub returns-in-Err-clause-stop : goal.returns-in-Err-clause-stop
returns-in-Err-clause-stop g c =
    OfStop-weaker _ _ (λ lines said. (c.name-item.result, subst (Contains c.args.names.now) (sym c.name-item.is) (Contains-get_or c.args.names.now c.loop-name.name-index c.name-item.result c.loop-name-test.true), said)) c.in-Err.halt c.in-Err.ensures.unread

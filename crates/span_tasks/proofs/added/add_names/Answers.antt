use Rattle.std.proofs.{Common.{◌++◌, ◌∷◌, [], take, sym, subst, append_assoc, arith}, lemmas.List.{append-nil, take_all, take_more}}
use Rattle.span_runs.proofs.Stopping.{OfStop-weaker}
use Rattle.span_tasks.specs.Added.{AddsBeside}
use Rattle.span_tasks.proofs.Adding.{AddsBeside-push, StopsLater-sum}
use Rattle.span_tasks.proofs.added.add_names.Goals as goal

-- none is added
pub loop-name-init : goal.loop-name-init
loop-name-init g c = λ kind done beside. rw (append-nil done) beside

-- the next one is
pub loop-name-preserved : goal.loop-name-preserved
loop-name-preserved g c = λ kind done beside.
    let source = (g.S.Source.bytes c.args.work.now.source.now) in
    let before = take c.loop-name.name-index c.args.names.now in
    rw (take_more c.args.names.now c.loop-name.name-index c.name-item.result c.loop-name-test.true, sym c.name-item.is, sym (append_assoc done before (c.name-item.result ∷ [])))
    (AddsBeside-push source kind (done ++ before) c.name-item.result c.loop-name.added c.in-Ok.more (c.loop-name.invariant kind done beside) c.in-Ok.ensures.sum)

-- the next one stopped
pub returns-in-Err : goal.returns-in-Err
returns-in-Err g c =
    OfStop-weaker _ _ (λ lines stops kind done beside. StopsLater-sum (g.S.Source.bytes c.args.work.now.source.now) done c.args.names.now c.loop-name.name-index c.name-item.result kind c.loop-name.added lines
    c.loop-name-test.true c.name-item.is (c.loop-name.invariant kind done beside) stops) c.in-Err.halt c.in-Err.ensures.stop

-- all are added
pub returns : goal.returns
returns g c = λ kind done beside.
    subst (λ names. AddsBeside (g.S.Source.bytes c.args.work.now.source.now) kind (done ++ names) c.loop-name.added) (take_all c.loop-name.name-index c.args.names.now (omega arith)) (c.loop-name.invariant kind done beside)

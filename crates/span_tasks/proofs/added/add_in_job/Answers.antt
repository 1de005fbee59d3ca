use Rattle.std.proofs.Common.{[]}
use Rattle.span_runs.proofs.Stopping.{OfStop-weaker}
use Rattle.span_tasks.proofs.Adding.{AddsBeside-none}
use Rattle.span_tasks.proofs.added.add_in_job.Goals as goal

-- all are added to none
pub returns-in-Ok-in_order : goal.returns-in-Ok-in_order
returns-in-Ok-in_order g c =
    let kind = c.args.kind.now in
    rw c.in-Ok-in_order.ensures (c.in-Ok-add_names.ensures kind [] (AddsBeside-none (g.S.Source.bytes c.args.work.now.source.now) kind c.in-Ok.none c.in-Ok.ensures))

-- one stopped
pub returns-in-Err-add_names : goal.returns-in-Err-add_names
returns-in-Err-add_names g c =
    let kind = c.args.kind.now in
    OfStop-weaker _ _ (λ lines stops. stops kind [] (AddsBeside-none (g.S.Source.bytes c.args.work.now.source.now) kind c.in-Ok.none c.in-Ok.ensures)) c.in-Err-add_names.halt c.in-Err-add_names.ensures

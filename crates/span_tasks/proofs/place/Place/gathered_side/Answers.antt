use Rattle.std.proofs.Common.{inr}
use Rattle.span_runs.proofs.Stopping.{OfStop-weaker}
use Rattle.span_tasks.proofs.BothSides.{no-parts}
use Rattle.span_tasks.proofs.place.Place.gathered_side.Goals as goal

-- the table of one run
pub returns-in-Ok-clause-side : goal.returns-in-Ok-clause-side
returns-in-Ok-clause-side g c = rw c.in-Together.is (record { parts = no-parts; kind = tt; is = rw c.deref.ensures.value at c.in-Ok.ensures.side })

pub returns-in-Err-clause-stop : goal.returns-in-Err-clause-stop
returns-in-Err-clause-stop g c = rw c.in-Together.is (OfStop-weaker _ _ (λ lines stops. inr (no-parts, tt, stops)) c.in-Err.halt (rw c.deref.ensures.value at c.in-Err.ensures.stop))

-- those of files apart
pub returns-in-Ok-apart_side-clause-side : goal.returns-in-Ok-apart_side-clause-side
returns-in-Ok-apart_side-clause-side g c = rw c.in-Apart.is (record { parts = no-parts; kind = tt; is = c.in-Ok-apart_side.ensures.side })

pub returns-in-Err-apart_side-clause-stop : goal.returns-in-Err-apart_side-clause-stop
returns-in-Err-apart_side-clause-stop g c = rw c.in-Apart.is (OfStop-weaker _ _ (λ lines stops. inr (no-parts, tt, stops)) c.in-Err-apart_side.halt c.in-Err-apart_side.ensures.stop)

-- printed ones
pub returns-in-Ok-printed_base-clause-side : goal.returns-in-Ok-printed_base-clause-side
returns-in-Ok-printed_base-clause-side g c =
    rw c.in-Printed.is (record { parts = c.in-Ok-printed_base.printed.kind; kind = (rw c.deref-in-Printed.ensures.value at c.in-Ok-printed_base.ensures.base).asked; is = (rw c.deref-in-Printed.ensures.value at c.in-Ok-printed_base.ensures.base).is })

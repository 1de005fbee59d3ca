use Rattle.span_runs.proofs.Stopping.{OfStop-weaker}
use Rattle.span_tasks.proofs.Adding.{AddsBeside-append, StopsLater-append, StopsLater-behind}
use Rattle.span_tasks.proofs.added.joined.Goals as goal

-- both were added
pub returns-in-Ok-join : goal.returns-in-Ok-join
returns-in-Ok-join c = λ source kind names more one other.
    AddsBeside-append source kind names more c.in-Ok.first c.in-Ok-second.second c.in-Ok-join.both (rw c.in-Ok.is at one) (rw c.in-Ok-second.is at other) c.in-Ok-join.ensures

-- the first stopped
pub returns-in-Err : goal.returns-in-Err
returns-in-Err c = λ source kind names more one other.
    OfStop-weaker _ _ (λ lines. StopsLater-append source _ kind names more lines) c.in-Err.halt (rw c.in-Err.is at one)

-- the second stopped
pub returns-in-Err-second : goal.returns-in-Err-second
returns-in-Err-second c = λ source kind names more one other.
    OfStop-weaker _ _ (λ lines. StopsLater-behind source kind names more c.in-Ok.first lines (rw c.in-Ok.is at one)) c.in-Err-second.halt (rw c.in-Err-second.is at other)

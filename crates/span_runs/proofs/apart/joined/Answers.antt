use Rattle.std.proofs.Common.{◌++◌}
use Rattle.span_runs.specs.{Runs.shortened, Stops.StopsAmong}
use Rattle.span_runs.proofs.{GatheredFiles.{AreGathered-append, joins-shortened, many-shortened}, Stopping.{OfStop-after, OfStop-weaker, StopsAmong-after, StopsAmong-append, StopsAmong-joined}}
use Rattle.span_runs.proofs.apart.joined.Goals as goal

-- both groups were gathered
pub returns-in-Ok-joined : goal.returns-in-Ok-joined
returns-in-Ok-joined g c = λ source names more settings by cut one other.
    AreGathered-append source names more settings (shortened cut (g.T.Gathering.come_to by)) c.in-Ok.first c.in-Ok-second.second c.in-Ok-joined.both
    (rw c.in-Ok.is at one) (rw c.in-Ok-second.is at other) (joins-shortened cut (g.T.Gathering.come_to by) c.in-Ok.first.runs c.in-Ok-second.second.runs c.in-Ok-joined.both.runs (c.in-Ok-joined.ensures.runs by)) c.in-Ok-joined.ensures.said

-- the first stopped
pub returns-in-Err : goal.returns-in-Err
returns-in-Err g c = λ source names more settings by cut one other.
    OfStop-weaker (StopsAmong source settings names) (StopsAmong source settings (names ++ more)) (StopsAmong-append source settings names more) c.in-Err.halt (rw c.in-Err.is at one)

-- the second stopped
pub returns-in-Err-second : goal.returns-in-Err-second
returns-in-Err-second g c = λ source names more settings by cut one other.
    OfStop-after (StopsAmong source settings more) (StopsAmong source settings (names ++ more)) c.in-Ok.first.said.lines.items
    (StopsAmong-after source settings names more (shortened cut (g.T.Gathering.come_to by)) c.in-Ok.first (rw c.in-Ok.is at one))
    c.in-Err-second.halt c.after.result c.after.ensures (rw c.in-Err-second.is at other)

-- they could not be joined
pub returns-in-Err-joined : goal.returns-in-Err-joined
returns-in-Err-joined g c = λ source names more settings by cut one other.
    OfStop-weaker _ (StopsAmong source settings (names ++ more))
    (λ lines says. StopsAmong-joined source settings names more (shortened cut (g.T.Gathering.come_to by)) c.in-Ok.first c.in-Ok-second.second (rw c.in-Ok.is at one) (rw c.in-Ok-second.is at other) lines says.0
    (many-shortened cut (g.T.Gathering.come_to by) c.in-Ok.first.runs c.in-Ok-second.second.runs (says.1 by)))
    c.in-Err-joined.halt c.in-Err-joined.ensures.stop

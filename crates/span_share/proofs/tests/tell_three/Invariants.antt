use Rattle.span_share.specs.Seats.{IsSeatOf}
use Rattle.span_share.proofs.tests.tell_three.Given as goal

-- the seat is one of this share
abbrev pub invariant-loop-time : goal.invariant-loop-time
invariant-loop-time g l = IsSeatOf l.share l.seat

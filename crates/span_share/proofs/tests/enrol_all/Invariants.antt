use Rattle.span_share.specs.Seats.{IsSeatOf}
use Rattle.span_share.proofs.tests.enrol_all.Given as goal

-- the seat is one of this share
abbrev pub invariant-loop-number : goal.invariant-loop-number
invariant-loop-number g l = IsSeatOf l.share l.seat

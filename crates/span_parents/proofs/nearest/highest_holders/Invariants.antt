use Rattle.span_parents.specs.Holding.{spans_of}
use Rattle.span_parents.proofs.Placing.{HavePlaces}
use Rattle.span_parents.proofs.nearest.highest_holders.Given as goal

abbrev pub invariant-loop-i : goal.invariant-loop-i
invariant-loop-i l = HavePlaces l.fn.among (spans_of l.fn.spans) l.ordered.items l.i l.places.items

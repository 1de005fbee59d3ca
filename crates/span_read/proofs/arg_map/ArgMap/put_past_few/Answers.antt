use Rattle.span_read.proofs.NameOrder.{IsInNameOrder-sorted}
use Rattle.span_read.proofs.arg_map.ArgMap.put_past_few.Goals as goal

pub invariant_of-many : goal.invariant_of-many
invariant_of-many c = IsInNameOrder-sorted c.insert.new.self.entries c.in_ok-insert.ensures.ordered

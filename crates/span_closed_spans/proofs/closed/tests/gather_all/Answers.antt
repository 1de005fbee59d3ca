use Rattle.std.proofs.{Common.{arith, ap, length}, lemmas.List.{length-map, Elements.All-nil}}
use Rattle.span_closed_spans.specs.{span_of}
use Rattle.span_closed_spans.proofs.closed.tests.gather_all.Goals as goal

pub overflow_cast-at : goal.overflow_cast-at
overflow_cast-at g c = omega (arith, c.as_slice.ensures.closed.few, ap length c.as_slice.ensures.spans, length-map c.as_slice.result.now span_of)

pub loop-span-init : goal.loop-span-init
loop-span-init g c = rw c.new-gathered.ensures.items (record { are = tt; in_time = All-nil _; apart = All-nil _; few = omega (arith, c.as_slice.ensures.closed.few) })

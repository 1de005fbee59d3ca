use Rattle.std.specs.Vec.Iter.{into_iter_items, into_iter_len}
use Rattle.std.proofs.Common.{◌≡◌, ◌++◌, map, length}
use Rattle.span_closed_spans.specs.{span_of}
use Rattle.span_closed_spans.proofs.closed.ClosedSpans.add_each.Given as goal

-- the spans that were passed are added, and the others are left
abbrev pub invariant-loop-span : goal.invariant-loop-span
invariant-loop-span l = record {
  added : l.self ≡ l.fn.self ++ map span_of l.yielded;
  left : l.yielded ++ into_iter_items l.span-iterator ≡ into_iter_items l.initial.span-iterator;
  len : into_iter_len l.span-iterator ≡ length (into_iter_items l.span-iterator);
}

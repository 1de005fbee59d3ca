use Rattle.std.proofs.Common.{◌≡◌, take, map}
use Rattle.span_self_time.proofs.SelfSums.{self_sum}
use Rattle.span_closed_spans.specs.{span_of}
use Rattle.span_closed_spans.proofs.walk.self_of.Given as goal

abbrev pub invariant-loop-span : goal.invariant-loop-span
invariant-loop-span l = l.own ≡ self_sum (map span_of l.spans) l.name (map span_of (take l.span-index l.spans))

use Rattle.std.proofs.Common.{◌≡◌, map, take}
use Rattle.span_ledger.specs.{timed_in}
use Rattle.span_ledger.proofs.named_spans.with_self_times.Given as goal

abbrev pub invariant-loop-i : goal.invariant-loop-i
invariant-loop-i l = l.timed.items ≡ map (timed_in l.spans) (take l.i l.spans)

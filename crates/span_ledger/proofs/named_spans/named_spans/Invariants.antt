use Rattle.std.proofs.Common.{◌≡◌, map, take}
use Rattle.span_ledger.specs.{span_of, Named.named_spans}
use Rattle.span_ledger.proofs.named_spans.named_spans.Given as goal

-- those of the spans so far
abbrev pub invariant-loop-span : goal.invariant-loop-span
invariant-loop-span l = l.named.items ≡ named_spans l.names (map span_of (take l.span-index l.spans))

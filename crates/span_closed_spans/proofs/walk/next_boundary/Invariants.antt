use Rattle.std.proofs.Common.{◌≤ℤ◌, ◌<ℤ◌, take, All}
use Rattle.span_closed_spans.specs.{span_of, Walk.IsUnbroken}
use Rattle.span_closed_spans.proofs.walk.next_boundary.Given as goal

abbrev pub invariant-loop-span : goal.invariant-loop-span
invariant-loop-span l = (l.u <ℤ l.next) × (l.next ≤ℤ l.end) × All (λ span. IsUnbroken (span_of span) l.u l.next) (take l.span-index l.spans)

use Rattle.std.proofs.Common.{◌≡◌, ◌+◌, ◌≤ℤ◌, map}
use Rattle.span_closed_spans.specs.{distance, span_of}
use Rattle.span_closed_spans.proofs.Unbroken.{counted_from}
use Rattle.span_closed_spans.proofs.walk.time_counted.Given as goal

abbrev pub invariant-loop-u : goal.invariant-loop-u
invariant-loop-u l =
    (l.from ≤ℤ l.u) × (l.u ≤ℤ l.until)
    × (l.time + counted_from (map span_of l.spans) l.counted l.u l.until ≡ counted_from (map span_of l.spans) l.counted l.from l.until)

abbrev pub decreases-loop-u : goal.decreases-loop-u
decreases-loop-u l = distance l.u l.until

use Rattle.span_self_time.specs.{distance, Division.{Owners, owner_of, SegmentStacks.IsTaking}}
use Rattle.span_self_time.proofs.division.segment_stacks.SegmentStacks.go_through.Given as goal

abbrev pub invariant-loop-self : goal.invariant-loop-self
invariant-loop-self l =
    (owners : Owners) → IsTaking (owner_of l.span) l.from l.initial.self owners → IsTaking (owner_of l.span) l.time l.self owners

abbrev pub decreases-loop-self : goal.decreases-loop-self
decreases-loop-self l = distance l.time l.span.span_until

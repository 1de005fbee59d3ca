use Rattle.span_self_time.specs.{distance, Division.{Owners, owner_of, TimeMap.{IsEntrant, IsTaking}}}
use Rattle.span_self_time.proofs.division.time_map.TimeMap.go_through.Given as goal

abbrev pub invariant-loop-time : goal.invariant-loop-time
invariant-loop-time l =
    (owners : Owners) → IsEntrant (owner_of l.span) owners → IsTaking (owner_of l.span) l.span.span_start l.initial.self owners → IsTaking (owner_of l.span) l.time l.self owners

abbrev pub decreases-loop-time : goal.decreases-loop-time
decreases-loop-time l = distance l.time l.span.span_until

use Rattle.std.proofs.Common.{length, arith, ap}
use Rattle.span_self_time.specs.Division.TimeMap.Stretches.{present}
use Rattle.span_self_time.proofs.TimeMap.Listing.{length-present}
use Rattle.span_self_time.proofs.division.time_map.stretches.Stretches.segment_count.Goals as goal

pub overflow_add-count : goal.overflow_add-count
overflow_add-count c =
    let few = length-present c.values-owned-items.result in
    let same = ap (λ l. length (present l)) c.values-owned-items.ensures.rest in
    omega (arith, c.loop-owned.invariant, few, same, c.values-owned-items.ensures.len, c.values-owned-items.ensures.fits)

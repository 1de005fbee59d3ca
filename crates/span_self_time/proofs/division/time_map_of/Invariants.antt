use Rattle.std.proofs.Common.{map, take}
use Rattle.span_self_time.specs.{Closed.span_of, Division.{owners_of, TimeMap.IsTimeMap}}
use Rattle.span_self_time.proofs.division.time_map_of.Given as goal

abbrev pub invariant-loop-span : goal.invariant-loop-span
invariant-loop-span l = IsTimeMap (owners_of (map span_of (take l.span-index l.spans))) l.time_map

use Rattle.std.proofs.Common.{rules, ◌≡◌, w64, to_z, of_z, subst}
use Rattle.span_self_time.specs.Division.TimeMap.Stretches.{at, IsNext}
use Rattle.span_self_time.proofs.TimeMap.Searching.{IsNext-first}
use Rattle.span_self_time.proofs.division.time_map.stretches.Stretches.next_after.Goals as goal

pub returns : goal.returns
returns c =
    let next : to_z w64 (of_z w64 c.in-Some.next.now) ≡ c.in-Some.next.now = search rules in
    let range = c.range-later.ensures.in_range tt in
    let time : to_z w64 (of_z w64 c.args.time) ≡ c.args.time = search rules in
    rw next (subst (λ t. IsNext (at c.args.self.now) t c.in-Some.next.now) time (IsNext-first c.args.self.now.map (to_z w64 (of_z w64 c.args.time)) c.in-Some.next.now _ _ _ range c.in-Some.ensures.steps))

use Rattle.std.proofs.Common.{rules, ◌≡◌, w64, to_z, of_z, subst}
use Rattle.span_self_time.specs.Division.TimeMap.Stretches.{at, IsLast}
use Rattle.span_self_time.proofs.TimeMap.Searching.{IsLast-greatest}
use Rattle.span_self_time.proofs.division.time_map.stretches.Stretches.last_at.Goals as goal

pub returns-in-Some : goal.returns-in-Some
returns-in-Some c =
    let start : to_z w64 (of_z w64 c.in-Some.start.now) ≡ c.in-Some.start.now = search rules in
    let time : to_z w64 (of_z w64 c.args.time) ≡ c.args.time = search rules in
    let range = c.range.ensures.in_range tt in
    let here = range.3 _ _ c.in-Some.ensures.steps in
    rw start (subst (λ t. IsLast (at c.args.self.now) t c.in-Some.start.now c.in-Some.owned.now) time (IsLast-greatest (at c.args.self.now) (to_z w64 (of_z w64 c.args.time)) c.in-Some.start.now c.in-Some.owned.now here.1 here.0.1 (λ q upto some. range.4 _ _ c.in-Some.ensures.steps q (tt, upto) some)))

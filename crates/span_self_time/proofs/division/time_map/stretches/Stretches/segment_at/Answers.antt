use Rattle.std.proofs.Common.{rules, ◌≡◌, sym, subst, w64, to_z, of_z}
use Rattle.span_self_time.specs.Division.TimeMap.Stretches.{at, IsLast}
use Rattle.span_self_time.proofs.TimeMap.StretchOwners.{owner-last}
use Rattle.span_self_time.proofs.division.time_map.stretches.Stretches.segment_at.Goals as goal

pub returns-in-Some-clause-owner : goal.returns-in-Some-clause-owner
returns-in-Some-clause-owner c = λ owners are.
    let m = at c.args.self.now in
    let time : to_z w64 (of_z w64 c.args.time) ≡ c.args.time = search rules in
    let last = subst (λ t. IsLast m t c.in-Some.field-0-0 c.in-Some.owned) time c.in-Some.ensures in
    sym (owner-last owners m c.args.time c.in-Some.field-0-0 c.in-Some.owned are last)

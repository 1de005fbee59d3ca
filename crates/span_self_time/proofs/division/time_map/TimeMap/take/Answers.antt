use Rattle.std.specs.Option.{is_some}
use Rattle.std.proofs.Common.{option_map, rules, ◌≡◌, Some, ap, subst, w64, to_z, of_z, refl}
use Rattle.span_self_time.specs.{Division.{owner_of, between, taken_to, OwnTimes.IsReplaced, TimeMap.Stretches.{at, IsPut, IsJoining}}, declared.segment.OwnedSegment.OwnedSegment}
use Rattle.span_self_time.proofs.{TimeMap.{Advancing.{IsClaimed, IsReplaced-taken}, Charging.{IsGiven, IsTaking-taken}}, division.time_map.TimeMap.take.Goals.After-end_of-until}
use Rattle.span_self_time.proofs.division.time_map.TimeMap.take.Goals as goal

-- the span takes the stretch
change : (c : After-end_of-until) → IsReplaced (taken_to (owner_of c.args.span.now) c.args.time c.requires.taking.owners) (taken_to (owner_of c.args.span.now) c.end_of-until.result c.requires.taking.owners) c.args.time c.end_of-until.result (option_map owner_of c.args.held) (Some (owner_of c.args.span.now))
change c =
    let s = owner_of c.args.span.now in
    let t = c.args.time in
    let n = c.end_of-until.result in
    let time : to_z w64 (of_z w64 t) ≡ t = search rules in
    let claim : IsClaimed s t n c.args.held c.args.self.now = record { within = c.requires.within; here = c.requires.held; claimed = c.requires.claimed; next = rw time at c.end_of-until.ensures } in
    IsReplaced-taken s t n c.args.held c.args.self.now c.requires.taking.owners c.requires.taking.holds.0 c.requires.taking.holds.1 claim

pub charge-requires-clause-change : goal.charge-requires-clause-change
charge-requires-clause-change c =
    let s = owner_of c.args.span.now in
    let owners = c.requires.taking.owners in
    let time : to_z w64 (of_z w64 c.args.time) ≡ c.args.time = search rules in
    let until : to_z w64 (of_z w64 c.end_of-until.result) ≡ c.end_of-until.result = search rules in
    rw (time, until) (record { old = taken_to s c.args.time owners; new = taken_to s c.end_of-until.result owners; are = c.requires.taking.holds.1.times; change = change (goal.at.charge-requires-clause-change c).After-end_of-until })

pub write-requires : goal.write-requires
write-requires c =
    let time : to_z w64 (of_z w64 c.args.time) ≡ c.args.time = search rules in
    rw time (ap is_some c.requires.held)

pub returns-clause-taking : goal.returns-clause-taking
returns-clause-taking c = λ owners enter is.
    let span = c.args.span.now in
    let s = owner_of span in
    let t = c.args.time in
    let n = c.end_of-until.result in
    let old = c.args.self.now.stretches in
    let time : to_z w64 (of_z w64 t) ≡ t = search rules in
    let until : to_z w64 (of_z w64 n) ≡ n = search rules in
    let owned : c.between.result ≡ between span t n = rw (time, until) at c.between.ensures in
    let claim : IsClaimed s t n c.args.held c.args.self.now = record { within = c.requires.within; here = c.requires.held; claimed = c.requires.claimed; next = rw time at c.end_of-until.ensures } in
    let written : IsPut (at old) t (Some (Some (between span t n))) (at c.write.new.self) =
    subst (λ (p : OwnedSegment). IsPut (at old) t (Some (Some p)) (at c.write.new.self)) owned (subst (λ t. IsPut (at old) t (Some (Some c.between.result)) (at c.write.new.self)) time c.write.ensures) in
    let given : IsGiven s t n (between span t n) old c.write.new.self = record { put = written; start = refl; until = refl; owner = refl } in
    let join : IsJoining t c.write.new.self c.join.new.self = subst (λ t. IsJoining t c.write.new.self c.join.new.self) time c.join.ensures in
    let charged = rw (time, until) at c.charge.ensures.times in
    let times = charged (taken_to s t owners) (taken_to s n owners) is.times (IsReplaced-taken s t n c.args.held c.args.self.now owners enter is claim) in
    rw until (IsTaking-taken s t n c.args.held (between span t n) c.args.self.now c.write.new.self c.join.new.self c.charge.new.self owners enter is claim given join times (c.charge.ensures.kept span.segment.name is.kept))

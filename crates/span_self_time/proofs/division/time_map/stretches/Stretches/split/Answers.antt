use Rattle.std.specs.Option.{is_some}
use Rattle.std.proofs.{Common.{rules, ◌≡◌, inr, ℤ, Some, None, ap, ◌∙◌, subst, w64, to_z, of_z, ◌≤ℤ◌, ◌<ℤ◌, arith}, lemmas.Int.{ints, by_lt_z}}
use Rattle.span_self_time.specs.Division.{between, TimeMap.Stretches.{at, IsLast, IsPut}}
use Rattle.span_self_time.proofs.TimeMap.{Cutting.{IsCut, IsCut-put, keeps-cut, IsDivided-cut, IsEnd-cut, IsOpened, IsDivided-free, IsEnd-free}, StretchOwners.{owner-last, owner-before}}
use Rattle.span_self_time.proofs.division.time_map.stretches.Stretches.split.Goals as goal

pub returns-in_default-clause-divided : goal.returns-in_default-clause-divided
returns-in_default-clause-divided c =
    let m = at c.args.self.now in
    let t = c.args.time in
    let n = at c.put.new.self in
    let time : to_z w64 (of_z w64 t) ≡ t = search rules in
    let none : (q : ℤ) → q ≤ℤ t → m q ≡ None = subst (λ t. (q : ℤ) → q ≤ℤ t → m q ≡ None) time c.in_default.ensures in
    let opened : IsOpened m n t = record {
      new = none t (omega (arith, ints));
      free = λ owners are. owner-before owners m t are none;
      put = subst (λ t. IsPut m t (Some None) n) time c.in_ok-put.ensures.ok;
    } in
    λ owners are. IsDivided-free owners m n t are opened c.requires.from_in_time c.requires.to_in_time

-- after the last segment
opened : (c : goal.In_ok-put-2) → IsOpened (at c.args.self.now) (at c.put-in_default-held.new.self) c.args.time
opened c =
    let m = at c.args.self.now in
    let t = c.args.time in
    let k = c.in-Some.start in
    let time : to_z w64 (of_z w64 t) ≡ t = search rules in
    let last : IsLast m t k None = subst (λ v. IsLast m t k v) c.in_default-held.is (subst (λ t. IsLast m t k c.in-Some.held) time c.in-Some.ensures) in
    let later : k <ℤ t = by_lt_z k t (λ h. h) (λ h. let same : k ≡ t = omega (arith, ints, last.first) in absurd (c.if-start-time.false (ap (of_z w64) same))) in
    record {
      new = last.none t later (omega (arith, ints));
      free = λ owners are. owner-last owners m t k None are last;
      put = subst (λ t. IsPut m t (Some None) (at c.put-in_default-held.new.self)) time c.in_ok-put-2.ensures.ok;
    }

pub returns-in_default-held-clause-divided : goal.returns-in_default-held-clause-divided
returns-in_default-held-clause-divided c = λ owners are. IsDivided-free owners _ _ _ are (opened c) c.requires.from_in_time c.requires.to_in_time

pub returns-in_default-held-clause-ends : goal.returns-in_default-held-clause-ends
returns-in_default-held-clause-ends c = λ owners u o are end. inr (IsEnd-free owners _ _ _ are (opened c) u o end)

pub write-requires : goal.write-requires
write-requires c =
    let m = at c.args.self.now in
    let t = c.args.time in
    let k = c.in-Some.start in
    let time : to_z w64 (of_z w64 t) ≡ t = search rules in
    let start : to_z w64 (of_z w64 k) ≡ k = search rules in
    let tailed = at c.put-2.new.self in
    let put : IsPut m t (Some (Some c.between.result)) tailed = subst (λ t. IsPut m t (Some (Some c.between.result)) tailed) time c.in_ok-put-3.ensures.ok in
    rw start (ap is_some (put.others k (λ e. c.if-start-time.false (ap (of_z w64) e)) ∙ c.in-Some.ensures.is))

cut : (c : goal.After-write) → IsCut (at c.args.self.now) (at c.write.new.self) c.args.time c.in-Some-held.owned c.in-Some.start
cut c =
    let m = at c.args.self.now in
    let tailed = at c.put-2.new.self in
    let n = at c.write.new.self in
    let t = c.args.time in
    let k = c.in-Some.start in
    let owned = c.in-Some-held.owned in
    let time : to_z w64 (of_z w64 t) ≡ t = search rules in
    let start : to_z w64 (of_z w64 k) ≡ k = search rules in
    let first : to_z w64 (of_z w64 owned.segment.start) ≡ owned.segment.start = search rules in
    let until : to_z w64 (of_z w64 owned.segment.until) ≡ owned.segment.until = search rules in
    let tail : c.between.result ≡ between owned t owned.segment.until = rw (time, until) at c.between.ensures in
    let head : c.between-2.result ≡ between owned owned.segment.start t = rw (time, first) at c.between-2.ensures in
    let last : IsLast m t k (Some owned) = subst (λ v. IsLast m t k v) c.in-Some-held.is (subst (λ t. IsLast m t k c.in-Some.held) time c.in-Some.ensures) in
    let put : IsPut m t (Some (Some (between owned t owned.segment.until))) tailed = subst (λ p. IsPut m t (Some (Some p)) tailed) tail (subst (λ t. IsPut m t (Some (Some c.between.result)) tailed) time c.in_ok-put-3.ensures.ok) in
    let written : IsPut tailed k (Some (Some (between owned owned.segment.start t))) n = subst (λ p. IsPut tailed k (Some (Some p)) n) head (subst (λ k. IsPut tailed k (Some (Some c.between-2.result)) n) start c.write.ensures) in
    IsCut-put m tailed n t k owned last (λ e. c.if-start-time.false (ap (of_z w64) e)) put written

pub returns-clause-divided : goal.returns-clause-divided
returns-clause-divided c = λ owners are. IsDivided-cut owners _ _ _ _ _ are (cut c) c.requires.from_in_time c.requires.to_in_time

pub returns-clause-keeps : goal.returns-clause-keeps
returns-clause-keeps c = λ owners q are. keeps-cut owners _ _ _ _ _ are (cut c) q

pub returns-clause-ends : goal.returns-clause-ends
returns-clause-ends c = λ owners u o are. IsEnd-cut owners _ _ _ _ _ are (cut c) u o

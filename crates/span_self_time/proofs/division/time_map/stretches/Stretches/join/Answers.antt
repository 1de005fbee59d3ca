use Rattle.std.specs.Option.{is_some}
use Rattle.std.proofs.{Common.{rules, ◌≡◌, ◌≢◌, ℕ, ℤ, pos, ◌-ℤ◌, Some, None, ap, ◌∙◌, subst, w64, to_z, of_z, arith}, lemmas.Int.ints}
use Rattle.span_self_time.specs.{Division.{Owners, between, TimeMap.Stretches.{at, IsDivided, IsEnd, IsLast, IsPut, IsJoining}}, Spans.Span, declared.division.time_map.stretches.Stretches.Stretches}
use Rattle.span_self_time.proofs.TimeMap.Joining.{apart-free, apart-none, segment-last, apart-other, IsJoined, IsJoined-put, keeps-joined, IsDivided-joined, IsEnd-joined, apart-joined}
use Rattle.span_self_time.proofs.division.time_map.stretches.Stretches.join.Goals as goal

unjoined : (t : ℤ) (s : Stretches) → ((x : Owners) (o : Span ℕ) → IsDivided x (at s) → IsEnd (at s) t o → x t ≢ Some o) → IsJoining t s s
unjoined t s apart = record { divided = λ x are. are; keeps = λ q differs some. some; ends = λ x u o are end. end; apart = apart }

pub returns-in_default : goal.returns-in_default
returns-in_default c =
    let time : to_z w64 (of_z w64 c.args.time) ≡ c.args.time = search rules in
    unjoined _ _ (λ owners o are end. apart-free owners (at c.args.self.now) c.args.time o are (rw time at c.in_default.ensures) end)

pub returns-in_default-last_at : goal.returns-in_default-last_at
returns-in_default-last_at c =
    let sooner : to_z w64 (of_z w64 (to_z w64 (of_z w64 c.args.time) -ℤ pos 1)) ≡ (c.args.time -ℤ pos 1) = search rules in
    unjoined _ _ (λ owners o are end. absurd (apart-none owners (at c.args.self.now) c.args.time o are (rw sooner at c.in_default-last_at.ensures) end))

pub returns-in_default-held : goal.returns-in_default-held
returns-in_default-held c =
    let m = at c.args.self.now in
    let t = c.args.time in
    let sooner : to_z w64 (of_z w64 (to_z w64 (of_z w64 t) -ℤ pos 1)) ≡ (t -ℤ pos 1) = search rules in
    let last : IsLast m (t -ℤ pos 1) c.in-Some-last_at.start None = subst (λ v. IsLast m (t -ℤ pos 1) c.in-Some-last_at.start v) c.in_default-held.is (rw sooner at c.in-Some-last_at.ensures) in
    unjoined _ _ (λ owners o are end. absurd (segment-last owners m t c.in-Some-last_at.start None o are last end (λ r same own. cc)))

pub returns-else-is_of_span_of : goal.returns-else-is_of_span_of
returns-else-is_of_span_of c =
    let m = at c.args.self.now in
    let t = c.args.time in
    let owned = c.in-Some-held.owned in
    let time : to_z w64 (of_z w64 t) ≡ t = search rules in
    let sooner : to_z w64 (of_z w64 (to_z w64 (of_z w64 t) -ℤ pos 1)) ≡ (t -ℤ pos 1) = search rules in
    let last : IsLast m (t -ℤ pos 1) c.in-Some-last_at.start (Some owned) = subst (λ v. IsLast m (t -ℤ pos 1) c.in-Some-last_at.start v) c.in-Some-held.is (rw sooner at c.in-Some-last_at.ensures) in
    unjoined _ _ (λ owners o are end. apart-other owners m t c.in-Some-last_at.start owned c.in-Some.later o are last (rw time at c.in-Some.ensures) c.if-is_of_span_of.ensures.differs end)

joined : (c : goal.After-write) → IsJoined (at c.args.self.now) (at c.write.new.self) c.args.time c.in-Some-held.owned c.in-Some.later c.in-Some-last_at.start
joined c =
    let m = at c.args.self.now in
    let less = at c.remove.new.self in
    let n = at c.write.new.self in
    let t = c.args.time in
    let k = c.in-Some-last_at.start in
    let owned = c.in-Some-held.owned in
    let later = c.in-Some.later in
    let time : to_z w64 (of_z w64 t) ≡ t = search rules in
    let sooner : to_z w64 (of_z w64 (to_z w64 (of_z w64 t) -ℤ pos 1)) ≡ (t -ℤ pos 1) = search rules in
    let start : to_z w64 (of_z w64 k) ≡ k = search rules in
    let first : to_z w64 (of_z w64 owned.segment.start) ≡ owned.segment.start = search rules in
    let until : to_z w64 (of_z w64 later.segment.until) ≡ later.segment.until = search rules in
    let whole : c.between.result ≡ between owned owned.segment.start later.segment.until = rw (first, until) at c.between.ensures in
    let last : IsLast m (t -ℤ pos 1) k (Some owned) = subst (λ v. IsLast m (t -ℤ pos 1) k v) c.in-Some-held.is (rw sooner at c.in-Some-last_at.ensures) in
    let gone : IsPut m t None less = subst (λ t. IsPut m t None less) time c.remove.ensures in
    let written : IsPut less k (Some (Some (between owned owned.segment.start later.segment.until))) n = subst (λ p. IsPut less k (Some (Some p)) n) whole (subst (λ k. IsPut less k (Some (Some c.between.result)) n) start c.write.ensures) in
    IsJoined-put m less n t k owned later last (rw time at c.in-Some.ensures) c.if-is_of_span_of.ensures.same gone written

pub write-requires : goal.write-requires
write-requires c =
    let m = at c.args.self.now in
    let t = c.args.time in
    let k = c.in-Some-last_at.start in
    let time : to_z w64 (of_z w64 t) ≡ t = search rules in
    let sooner : to_z w64 (of_z w64 (to_z w64 (of_z w64 t) -ℤ pos 1)) ≡ (t -ℤ pos 1) = search rules in
    let start : to_z w64 (of_z w64 k) ≡ k = search rules in
    let last : IsLast m (t -ℤ pos 1) k c.in-Some-last_at.held = rw sooner at c.in-Some-last_at.ensures in
    let gone : IsPut m t None (at c.remove.new.self) = subst (λ t. IsPut m t None (at c.remove.new.self)) time c.remove.ensures in
    rw start (ap is_some (gone.others k (λ e. omega (arith, ints, last.first)) ∙ last.is))

pub returns-then-is_of_span_of : goal.returns-then-is_of_span_of
returns-then-is_of_span_of c = record {
  divided = λ owners are. IsDivided-joined owners _ _ _ _ _ _ are (joined c);
  keeps = keeps-joined _ _ _ _ _ _ (joined c);
  ends = λ owners u o are. IsEnd-joined owners _ _ _ _ _ _ are (joined c) u o;
  apart = λ owners o are end is. apart-joined owners _ _ _ _ _ _ are (joined c) o end;
}

-- What a span has when it has taken a stretch.
use Rattle.std.specs.Option.{option_map}
use Rattle.std.proofs.{Common.{◌≡◌, ◌≢◌, ◌⊎◌, inl, inr, ℕ, nat_eq, ℤ, ◌≤ℤ◌, ◌<ℤ◌, IsSome, Option, Some, sym, ap, ◌∙◌, subst, arith}, lemmas.Int.{ints, by_lt_z}}
use Rattle.indexmap.specs.IndexMap.{get}
use Rattle.span_self_time.specs.{Division.{Owners, owner_of, taken, taken_to, KeepsOwners, OwnTimes.{AreTimes, IsReplaced}, TimeMap.{IsTimeMap, IsEntrant, IsTaking, Stretches.{at, IsDivided, IsEnd, IsPut, IsJoining}}}, Spans.Span, declared.{division.{own_times.OwnTimes.OwnTimes, time_map.{TimeMap.TimeMap, stretches.Stretches.Stretches}}, segment.OwnedSegment.OwnedSegment}}
use Rattle.span_self_time.proofs.{Owners.{taken-after, taken_to-after, taken_to-on, taken_to-start, taken_to-until}, TimeMap.{Advancing.{IsClaimed, IsReplaced-taken, IsDivided-given, IsEnd-given, keeps-given}, Barring.AreBarred-taken, StretchOwners.{by_eq_z, IsSome-None}}}

-- the segment p is the stretch that the span has taken
pub record IsGiven (s : Span ℕ) (t n : ℤ) (p : OwnedSegment) (old new : Stretches) : Type 0 where
  pub put : IsPut (at old) t (Some (Some p)) (at new)
  pub start : p.segment.start ≡ t
  pub until : p.segment.until ≡ n
  pub owner : owner_of p ≡ s

pub IsTaking-taken : (s : Span ℕ) (t n : ℤ) (v : Option OwnedSegment) (p : OwnedSegment) (time_map : TimeMap) (given joined : Stretches) (times : OwnTimes) (owners : Owners)
    → IsEntrant s owners → IsTaking s t time_map owners → IsClaimed s t n v time_map → IsGiven s t n p time_map.stretches given → IsJoining t given joined
    → AreTimes (taken_to s n owners) times → IsSome (get nat_eq times.names s.name) → IsTaking s n (record { stretches = joined; ties = time_map.ties; times = times }) owners
IsTaking-taken s t n v p time_map given joined times owners enter is claim gift join are kept = record {
  from = omega (arith, ints, is.from, claim.next.later);
  divided = join.divided new divided;
  whole = λ u o end starts untils. by_eq_z u t
      (λ h here. join.apart new o divided (subst (λ x. IsEnd (at joined) x o) h end) (ap new (sym h) ∙ here))
      (λ h here. elim (IsEnd-given old new (at time_map.stretches) (at given) t n v p is.divided claim.here claim.next gift.put gift.start gift.until change u o (join.ends new u o divided end)) [
        | inl last ↦ enter.new u o (sym (taken_to-after s n owners u (omega (arith, ints, last.0))) ∙ here) (ap (λ (x : Span ℕ). x.at) (sym last.1 ∙ gift.owner))
        | inr before ↦ is.whole u o before starts untils (sym (outside u h (key u o before)) ∙ here)
      ]);
  until = join.keeps s.until (λ e. omega (arith, ints, claim.within)) (keeps s.until is.until);
  edge = inl (join.keeps n (λ e. omega (arith, ints, claim.next.later)) (keeps n claim.next.some));
  times = are;
  kept = kept;
  barred = is.barred;
}
  where
    old : Owners
    old = taken_to s t owners

    new : Owners
    new = taken_to s n owners

    change : IsReplaced old new t n (option_map owner_of v) (Some (owner_of p))
    change = subst (λ (x : Span ℕ). IsReplaced old new t n (option_map owner_of v) (Some x)) (sym gift.owner) (IsReplaced-taken s t n v time_map owners enter is claim)

    divided : IsDivided new (at given)
    divided = IsDivided-given old new (at time_map.stretches) (at given) t n v p is.divided claim.here claim.next gift.put gift.start gift.until change

    keeps : (q : ℤ) → IsSome (at time_map.stretches q) → IsSome (at given q)
    keeps = keeps-given old new (at time_map.stretches) (at given) t n v p is.divided claim.here claim.next gift.put gift.start gift.until change

    key : (u : ℤ) (o : Span ℕ) → IsEnd (at time_map.stretches) u o → IsSome (at time_map.stretches u)
    key u o end = subst (λ x. IsSome (at time_map.stretches x)) end.until (is.divided.held end.start end.owned end.is).next.some

    outside : (u : ℤ) → u ≢ t → IsSome (at time_map.stretches u) → new u ≡ old u
    outside u differs some =
        by_lt_z u t (λ h. change.before u h)
        (λ h. by_lt_z u n (λ k. absurd (IsSome-None _ (claim.next.none u (by_lt_z t u (λ x. x) (λ x. absurd (differs (omega (arith, ints))))) k) some)) (λ k. change.after u k))

-- the span starts to take
pub IsTaking-start : (s : Span ℕ) (time_map : TimeMap) (stretches : Stretches) (times : OwnTimes) (owners : Owners) → IsTimeMap owners time_map
    → ((x : Owners) → IsDivided x (at time_map.stretches) → IsDivided x (at stretches)) → IsSome (at stretches s.start) → IsSome (at stretches s.until)
    → ((x : Owners) (u : ℤ) (o : Span ℕ) → IsDivided x (at time_map.stretches) → IsEnd (at stretches) u o → (u ≡ s.until) ⊎ ((u ≡ s.start) ⊎ IsEnd (at time_map.stretches) u o))
    → KeepsOwners AreTimes time_map.times times → IsSome (get nat_eq times.names s.name) → IsTaking s s.start (record { stretches = stretches; ties = time_map.ties; times = times }) owners
IsTaking-start s time_map stretches times owners is divided start until ends same kept =
    let unchanged = taken_to-start s owners in
    record {
      from = omega (arith, ints);
      divided = subst (λ (x : Owners). IsDivided x (at stretches)) unchanged (divided owners is.divided);
      whole = subst (λ (x : Owners). (u : ℤ) (o : Span ℕ) → IsEnd (at stretches) u o → u ≢ s.start → u ≢ s.until → x u ≢ Some o) unchanged
          (λ u o end starts untils. elim (ends owners u o is.divided end) [
            | inl h ↦ absurd (untils h)
            | inr rest ↦ elim rest [
              | inl h ↦ absurd (starts h)
              | inr before ↦ is.whole u o before
            ]
          ]);
      until = until;
      edge = inl start;
      times = subst (λ (x : Owners). AreTimes x times) unchanged (same owners is.times);
      kept = kept;
      barred = is.barred;
    }

-- from its end on the span takes nothing
pub IsTaking-end : (s : Span ℕ) (t : ℤ) (time_map : TimeMap) (owners : Owners) → s.start <ℤ s.until → s.until ≤ℤ t → IsTaking s t time_map owners → IsTaking s s.until time_map owners
IsTaking-end s t time_map owners lasts beyond is =
    let same = sym (taken_to-on s s.until t owners beyond (λ u from before. taken-after s owners u from)) in
    record {
      from = omega (arith, ints);
      divided = subst (λ (x : Owners). IsDivided x (at time_map.stretches)) same is.divided;
      whole = subst (λ (x : Owners). (u : ℤ) (o : Span ℕ) → IsEnd (at time_map.stretches) u o → u ≢ s.start → u ≢ s.until → x u ≢ Some o) same is.whole;
      until = is.until;
      edge = inl is.until;
      times = subst (λ (x : Owners). AreTimes x time_map.times) same is.times;
      kept = is.kept;
      barred = is.barred;
    }

-- the span has all that it takes
pub IsTimeMap-taken : (s : Span ℕ) (time_map : TimeMap) (once twice : Stretches) (owners : Owners) → IsTaking s s.until time_map owners → IsJoining s.until time_map.stretches once → IsJoining s.start once twice
    → IsTimeMap (taken s owners) (record { stretches = twice; ties = time_map.ties; times = time_map.times })
IsTimeMap-taken s time_map once twice owners is first second =
    let all = taken_to-until s owners in
    let divided = subst (λ (x : Owners). IsDivided x (at time_map.stretches)) all is.divided in
    let whole = subst (λ (x : Owners). (u : ℤ) (o : Span ℕ) → IsEnd (at time_map.stretches) u o → u ≢ s.start → u ≢ s.until → x u ≢ Some o) all is.whole in
    let joined = first.divided (taken s owners) divided in
    record {
      divided = second.divided (taken s owners) joined;
      whole = λ u o end. by_eq_z u s.start
          (λ h here. second.apart (taken s owners) o joined (subst (λ x. IsEnd (at twice) x o) h end) (ap (taken s owners) (sym h) ∙ here))
          (λ h. by_eq_z u s.until
          (λ g here. first.apart (taken s owners) o divided (subst (λ x. IsEnd (at once) x o) g (second.ends (taken s owners) u o joined end)) (ap (taken s owners) (sym g) ∙ here))
          (λ g. whole u o (first.ends (taken s owners) u o divided (second.ends (taken s owners) u o joined end)) h g));
      times = subst (λ (x : Owners). AreTimes x time_map.times) all is.times;
      barred = AreBarred-taken s owners time_map.ties is.barred;
    }

-- How a new span goes from stretch to stretch.
use Rattle.std.specs.Option.{option_map}
use Rattle.std.proofs.{Common.{◌≡◌, ◌≢◌, ◌⊎◌, inl, inr, ℕ, true, false, ℤ, pos, ◌-ℤ◌, ◌≤ℤ◌, ◌<ℤ◌, IsSome, Option, Some, None, sym, ap, ◌∙◌, subst, true≢false, arith}, lemmas.{Grind.common_steps, Bool.{or_cases, false_from_ne_true}, Int.{ints, by_lt_z}}}
use Rattle.span_self_time.specs.{Division.{Owners, owner_of, claims, taken_to, Belong, OwnTimes.{AreTimes, IsReplaced}, TimeMap.{IsEntrant, IsTaking, Stretches.{Starts, at, IsNext, IsHeld, IsOfSegment, IsDivided, IsEnd, IsPut}}}, Spans.{Span, covers, outranks}, declared.{division.time_map.TimeMap.TimeMap, segment.OwnedSegment.OwnedSegment}}
use Rattle.span_self_time.proofs.{Counts.covers-between, Owners.{taken-unclaimed, taken_to-before, taken_to-after, taken_to-on}, Ranks.{outranks-trans, outranks-either}, TimeMap.StretchOwners.{by_eq_z, IsSome-Some, IsSome-None, Belong-next, apart, owner-stays}, Times.IsReplaced-claimed}

-- who has no claim on an owner has none on those who rank above
pub claims-below : (s o : Span ℕ) (x : Option (Span ℕ)) → o.at ≢ s.at → claims s (Some o) ≡ false → claims o x ≡ false → claims s x ≡ false
claims-below s o None differs below none = absurd (true≢false none)
claims-below s o (Some x) differs below none =
    false_from_ne_true (outranks s x) (λ above.
    elim (or_cases (outranks o s) (outranks s o) (outranks-either o s differs)) [
      | inl higher ↦ true≢false (sym (outranks-trans o s x higher above) ∙ none)
      | inr lower ↦ true≢false (sym lower ∙ below)
    ])

-- all that an owner covers is out of reach of a span that has no claim on him
pub claims-covered : (s o : Span ℕ) (t u : ℤ) (owners : Owners) → IsEntrant s owners → owners t ≡ Some o → claims s (Some o) ≡ false → t ≤ℤ u → u <ℤ o.until → claims s (owners u) ≡ false
claims-covered s o t u owners enter is below from before =
    claims-below s o (owners u) (enter.new t o is) below (enter.settled.no_claim t u o is (covers-between o u (starts (enter.settled.own t o is)) before))
  where
    starts : covers o t ≡ true → o.start ≤ℤ u
    starts h = grind (arith, ints, h, from)

pub covers-start : (o : Span ℕ) (t : ℤ) → covers o t ≡ true → o.start ≤ℤ t
covers-start o t h = grind (arith, ints, h)

pub covers-until : (o : Span ℕ) (t : ℤ) → covers o t ≡ true → t <ℤ o.until
covers-until o t h = grind (arith, ints, h)

-- the span goes on at n, where it has no claim in between
pub IsTaking-over : (s : Span ℕ) (t n : ℤ) (time_map : TimeMap) (owners : Owners) → IsTaking s t time_map owners → t <ℤ n → ((u : ℤ) → t ≤ℤ u → u <ℤ n → claims s (owners u) ≡ false) → IsTaking s n time_map owners
IsTaking-over s t n time_map owners is later none =
    let same = taken_to-on s t n owners (omega (arith, ints)) (λ u from before. taken-unclaimed s owners u (none u from before)) in
    record {
      from = omega (arith, ints, is.from);
      divided = subst (λ (x : Owners). IsDivided x (at time_map.stretches)) same is.divided;
      whole = subst (λ (x : Owners). (u : ℤ) (r : Span ℕ) → IsEnd (at time_map.stretches) u r → u ≢ s.start → u ≢ s.until → x u ≢ Some r) same is.whole;
      until = is.until;
      edge = inr (none (n -ℤ pos 1) (omega (arith, ints)) (omega (arith, ints)));
      times = subst (λ (x : Owners). AreTimes x time_map.times) same is.times;
      kept = is.kept;
      barred = is.barred;
    }

-- a stretch starts where the span has a claim
pub claimed-starts : (s : Span ℕ) (t : ℤ) (time_map : TimeMap) (owners : Owners) → IsTaking s t time_map owners → claims s (owners t) ≡ true → IsSome (at time_map.stretches t)
claimed-starts s t time_map owners is claimed = grind (arith, ints, common_steps, owner-stays, taken-unclaimed, taken_to-before, taken_to-after, true≢false)

-- the span has a claim on the stretch from t to n
pub record IsClaimed (s : Span ℕ) (t n : ℤ) (v : Option OwnedSegment) (time_map : TimeMap) : Type 0 where
  pub within : t <ℤ s.until
  pub here : at time_map.stretches t ≡ Some v
  pub claimed : claims s (option_map owner_of v) ≡ true
  pub next : IsNext (at time_map.stretches) t n

module _ (s : Span ℕ) (t n : ℤ) (v : Option OwnedSegment) (time_map : TimeMap) (owners : Owners) (enter : IsEntrant s owners) (is : IsTaking s t time_map owners) (claim : IsClaimed s t n v time_map) where
  pub ends : n ≤ℤ s.until
  ends =
      by_lt_z s.until n (λ h. absurd (IsSome-None (at time_map.stretches s.until) (claim.next.none s.until claim.within h) is.until)) (λ h. h)

  was : Belong (taken_to s t owners) t n (option_map owner_of v)
  was = Belong-next (taken_to s t owners) (at time_map.stretches) t n v is.divided claim.here claim.next

  pub IsReplaced-taken : IsReplaced (taken_to s t owners) (taken_to s n owners) t n (option_map owner_of v) (Some s)
  IsReplaced-taken =
      IsReplaced-claimed s t n (option_map owner_of v) owners enter.in_time is.from claim.next.later ends (λ u from before. sym (taken_to-after s t owners u from) ∙ was u from before) claim.claimed

-- a stretch changes hands
module _ (old new : Owners) (m n : Starts) (t e : ℤ) (v : Option OwnedSegment) (p : OwnedSegment) (are : IsDivided old m) (here : m t ≡ Some v) (next : IsNext m t e) (put : IsPut m t (Some (Some p)) n) (start : p.segment.start ≡ t) (until : p.segment.until ≡ e) (change : IsReplaced old new t e (option_map owner_of v) (Some (owner_of p))) where
  pub keeps-given : (q : ℤ) → IsSome (m q) → IsSome (n q)
  keeps-given q some =
      by_eq_z q t (λ g. IsSome-Some (n q) _ (ap n g ∙ put.here)) (λ g. subst IsSome (sym (put.others q g)) some)

  by_segment : {P : Type 0} (j : ℤ) (r : OwnedSegment) → n j ≡ Some (Some r) → (j ≡ t → p ≡ r → P) → (j ≢ t → m j ≡ Some (Some r) → P) → P
  by_segment j r is first other = grind (arith, ints, common_steps)

  held-given : IsHeld new n t p
  held-given = grind (arith, ints, common_steps)

  -- a segment of m that starts elsewhere lies before t or from e on
  elsewhere : (j u : ℤ) (r : OwnedSegment) → j ≢ t → m j ≡ Some (Some r) → j ≤ℤ u → u <ℤ r.segment.until → new u ≡ old u
  elsewhere j u r differs is from before =
      by_lt_z u t (λ h. change.before u h)
      (λ h. by_lt_z u e
      (λ k. absurd (by_lt_z j t
      (λ l. let ends = apart old m j t r are is (IsSome-Some (m t) _ here) l in omega (arith, ints))
      (λ l. IsSome-None (m j) (next.none j (by_lt_z t j (λ x. x) (λ x. absurd (differs (omega (arith, ints))))) (omega (arith, ints))) (IsSome-Some (m j) _ is))))
      (λ k. change.after u k))

  held-elsewhere : (j : ℤ) (r : OwnedSegment) → j ≢ t → m j ≡ Some (Some r) → IsHeld new n j r
  held-elsewhere j r differs is =
      let held = are.held j r is in
      record {
        start = held.start;
        belongs = λ u from before. elsewhere j u r differs is from before ∙ held.belongs u from before;
        next = record {
          some = keeps-given r.segment.until held.next.some;
          later = held.next.later;
          none = λ q after before.
              by_eq_z q t (λ h. absurd (IsSome-None (m q) (held.next.none q after before) (IsSome-Some (m q) _ (ap m h ∙ here))))
              (λ h. put.others q h ∙ held.next.none q after before);
        };
      }

  of_segment : (u : ℤ) → IsOfSegment m u → (t ≤ℤ u → u <ℤ e → ⊥) → IsOfSegment n u
  of_segment u of outside =
      by_eq_z of.start t
      (λ h. absurd (by_lt_z u e (λ k. outside (omega (arith, ints, of.from, h)) k)
      (λ k. IsSome-None (m e) ((are.held of.start of.owned of.is).next.none e (omega (arith, ints, h, next.later)) (omega (arith, ints, of.before))) next.some)))
      (λ h. record { start = of.start; owned = of.owned; is = put.others of.start h ∙ of.is; from = of.from; before = of.before })

  owned : (u : ℤ) (o : Span ℕ) → new u ≡ Some o → IsOfSegment n u
  owned u o is =
      by_lt_z u t (λ h. of_segment u (are.owned u o (sym (change.before u h) ∙ is)) (λ from before. omega (arith, ints)))
      (λ h. by_lt_z u e
      (λ k. record { start = t; owned = p; is = put.here; from = h; before = omega (arith, ints, until) })
      (λ k. of_segment u (are.owned u o (sym (change.after u k) ∙ is)) (λ from before. omega (arith, ints))))

  pub IsDivided-given : IsDivided new n
  IsDivided-given = record {
    held = λ j r is. by_segment j r is
        (λ h same. subst (λ x. IsHeld new n x r) (sym h) (subst (IsHeld new n t) same held-given))
        (λ h here. held-elsewhere j r h here);
    owned = owned;
    in_time = λ q some.
        by_eq_z q t (λ g. are.in_time q (IsSome-Some (m q) _ (ap m g ∙ here)))
        (λ g. are.in_time q (subst IsSome (put.others q g) some));
  }

  -- segments end where they did, or where the stretch does
  pub IsEnd-given : (u : ℤ) (o : Span ℕ) → IsEnd n u o → ((u ≡ e) × (owner_of p ≡ o)) ⊎ IsEnd m u o
  IsEnd-given u o end =
      by_segment end.start end.owned end.is
      (λ h same. inl (sym end.until ∙ ap (λ (x : OwnedSegment). x.segment.until) (sym same) ∙ until, ap owner_of same ∙ end.owner))
      (λ h is. inr (record { start = end.start; owned = end.owned; is = is; until = end.until; owner = end.owner }))

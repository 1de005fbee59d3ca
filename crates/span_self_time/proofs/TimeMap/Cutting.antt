-- How a stretch is cut in two.
use Rattle.std.proofs.{Common.{◌≡◌, ◌≢◌, ◌⊎◌, inl, inr, ℕ, ℤ, ◌≤ℤ◌, ◌<ℤ◌, IsSome, Some, None, refl, sym, ap, ◌∙◌, subst, arith}, lemmas.{Grind.common_steps, Int.{ints, by_lt_z}, Option.same_Some}}
use Rattle.span_self_time.specs.{least_time, Closed.greatest_until, Division.{Owners, owner_of, between, TimeMap.Stretches.{Starts, IsLast, IsHeld, IsOfSegment, IsDivided, IsEnd, IsPut}}, Spans.Span, declared.segment.OwnedSegment.OwnedSegment}
use Rattle.span_self_time.proofs.TimeMap.StretchOwners.{by_eq_z, IsSome-Some, IsSome-None, until-last, last-is, IsHeld-same}

-- n has one more start, at t
pub record IsCut (m n : Starts) (t : ℤ) (p : OwnedSegment) (k : ℤ) : Type 0 where
  pub last : IsLast m t k (Some p)
  pub later : k <ℤ t
  pub head : n k ≡ Some (Some (between p p.segment.start t))
  pub tail : n t ≡ Some (Some (between p t p.segment.until))
  pub others : (q : ℤ) → q ≢ k → q ≢ t → n q ≡ m q

pub IsCut-put : (m tailed n : Starts) (t k : ℤ) (p : OwnedSegment) → IsLast m t k (Some p) → k ≢ t → IsPut m t (Some (Some (between p t p.segment.until))) tailed → IsPut tailed k (Some (Some (between p p.segment.start t))) n → IsCut m n t p k
IsCut-put m tailed n t k p last differs tail head = grind (arith, ints, common_steps)

module _ (owners : Owners) (m n : Starts) (t k : ℤ) (p : OwnedSegment) (are : IsDivided owners m) (cut : IsCut m n t p k) where
  none : m t ≡ None
  none = cut.last.none t cut.later (omega (arith, ints))

  pub keeps-cut : (q : ℤ) → IsSome (m q) → IsSome (n q)
  keeps-cut q some = grind (arith, ints, common_steps)

  -- a segment of n is one of the two, or one of m
  by_segment : {P : Type 0} (j : ℤ) (r : OwnedSegment) → n j ≡ Some (Some r) → (j ≡ k → between p p.segment.start t ≡ r → P) → (j ≡ t → between p t p.segment.until ≡ r → P) → (j ≢ k → j ≢ t → m j ≡ Some (Some r) → P) → P
  by_segment j r is first second other = grind (arith, ints, common_steps)

  held-head : IsHeld owners n k (between p p.segment.start t)
  held-head =
      let held = are.held k p cut.last.is in
      let beyond = until-last owners m t k p are cut.last in
      record {
        start = held.start;
        belongs = λ u from before. held.belongs u from (omega (arith, ints));
        next = record {
          some = IsSome-Some (n t) _ cut.tail;
          later = cut.later;
          none = λ q after before. cut.others q (λ e. omega (arith, ints)) (λ e. omega (arith, ints)) ∙ cut.last.none q after (omega (arith, ints));
        };
      }

  held-tail : IsHeld owners n t (between p t p.segment.until)
  held-tail =
      let held = are.held k p cut.last.is in
      let beyond = until-last owners m t k p are cut.last in
      record {
        start = refl;
        belongs = λ u from before. held.belongs u (omega (arith, ints, cut.later)) before;
        next = record {
          some = keeps-cut p.segment.until held.next.some;
          later = beyond;
          none = λ q after before. cut.others q (λ e. omega (arith, ints, cut.later)) (λ e. omega (arith, ints)) ∙ held.next.none q (omega (arith, ints, cut.later)) before;
        };
      }

  held-other : (j : ℤ) (r : OwnedSegment) → j ≢ k → m j ≡ Some (Some r) → IsHeld owners n j r
  held-other j r differs is =
      let held = are.held j r is in
      IsHeld-same owners m n j r held (keeps-cut r.segment.until) (λ q after before.
      by_eq_z q k (λ h. absurd (IsSome-None (m q) (held.next.none q after before) (IsSome-Some (m q) _ (ap m h ∙ cut.last.is))))
      (λ h. by_eq_z q t (λ g. absurd (differs (last-is owners m t k j (Some p) r are cut.last is (omega (arith, ints)) (omega (arith, ints)))))
      (λ g. cut.others q h g ∙ held.next.none q after before)))

  of_segment : (u : ℤ) → IsOfSegment m u → IsOfSegment n u
  of_segment u of =
      by_eq_z of.start k
      (λ h.
      let same : p ≡ of.owned = same_Some _ _ (same_Some _ _ (sym cut.last.is ∙ ap m (sym h) ∙ of.is)) in
      by_lt_z u t
      (λ g. record { start = k; owned = between p p.segment.start t; is = cut.head; from = subst (λ x. x ≤ℤ u) h of.from; before = g })
      (λ g. record { start = t; owned = between p t p.segment.until; is = cut.tail; from = g; before = subst (λ (x : OwnedSegment). u <ℤ x.segment.until) (sym same) of.before }))
      (λ h. record {
        start = of.start;
        owned = of.owned;
        is = cut.others of.start h (λ g. IsSome-None (m of.start) (ap m g ∙ none) (IsSome-Some (m of.start) _ of.is)) ∙ of.is;
        from = of.from;
        before = of.before;
      })

  pub IsDivided-cut : least_time ≤ℤ t → t ≤ℤ greatest_until → IsDivided owners n
  IsDivided-cut least greatest = record {
    held = λ j r is. by_segment j r is
        (λ h same. subst (λ x. IsHeld owners n x r) (sym h) (subst (IsHeld owners n k) same held-head))
        (λ h same. subst (λ x. IsHeld owners n x r) (sym h) (subst (IsHeld owners n t) same held-tail))
        (λ h g here. held-other j r h here);
    owned = λ u o is. of_segment u (are.owned u o is);
    in_time = λ q some.
        by_eq_z q k (λ h. are.in_time q (IsSome-Some (m q) _ (ap m h ∙ cut.last.is)))
        (λ h. by_eq_z q t (λ g. (subst (λ x. least_time ≤ℤ x) (sym g) least, subst (λ x. x ≤ℤ greatest_until) (sym g) greatest))
        (λ g. are.in_time q (subst IsSome (cut.others q h g) some)));
  }

  -- segments end where they did, or at t
  pub IsEnd-cut : (u : ℤ) (o : Span ℕ) → IsEnd n u o → (u ≡ t) ⊎ IsEnd m u o
  IsEnd-cut u o end =
      by_segment end.start end.owned end.is
      (λ h same. inl (sym end.until ∙ ap (λ (x : OwnedSegment). x.segment.until) (sym same)))
      (λ h same. inr (record { start = k; owned = p; is = cut.last.is; until = ap (λ (x : OwnedSegment). x.segment.until) same ∙ end.until; owner = ap owner_of same ∙ end.owner }))
      (λ h g is. inr (record { start = end.start; owned = end.owned; is = is; until = end.until; owner = end.owner }))

-- a start where there is no segment
pub record IsOpened (m n : Starts) (t : ℤ) : Type 0 where
  pub new : m t ≡ None
  pub free : (owners : Owners) → IsDivided owners m → owners t ≡ None
  pub put : IsPut m t (Some None) n

module _ (owners : Owners) (m n : Starts) (t : ℤ) (are : IsDivided owners m) (opened : IsOpened m n t) where
  pub keeps-free : (q : ℤ) → IsSome (m q) → IsSome (n q)
  keeps-free q some =
      by_eq_z q t (λ g. IsSome-Some (n q) _ (ap n g ∙ opened.put.here)) (λ g. subst IsSome (sym (opened.put.others q g)) some)

  from_m : (j : ℤ) (r : OwnedSegment) → n j ≡ Some (Some r) → m j ≡ Some (Some r)
  from_m j r is =
      by_eq_z j t (λ g. let none : None ≡ Some r = same_Some _ _ (sym opened.put.here ∙ ap n (sym g) ∙ is) in absurd cc) (λ g. sym (opened.put.others j g) ∙ is)

  held-free : (j : ℤ) (r : OwnedSegment) → m j ≡ Some (Some r) → IsHeld owners n j r
  held-free j r is =
      let held = are.held j r is in
      IsHeld-same owners m n j r held (keeps-free r.segment.until) (λ q after before.
      by_eq_z q t
      (λ g. let owned : None ≡ Some (owner_of r) = sym (opened.free owners are) ∙ ap owners (sym g) ∙ held.belongs q (omega (arith, ints)) before in absurd cc)
      (λ g. opened.put.others q g ∙ held.next.none q after before))

  pub IsDivided-free : least_time ≤ℤ t → t ≤ℤ greatest_until → IsDivided owners n
  IsDivided-free least greatest = record {
    held = λ j r is. held-free j r (from_m j r is);
    owned = λ u o is.
        let of = are.owned u o is in
        record {
          start = of.start;
          owned = of.owned;
          is = opened.put.others of.start (λ g. IsSome-None (m of.start) (ap m g ∙ opened.new) (IsSome-Some (m of.start) _ of.is)) ∙ of.is;
          from = of.from;
          before = of.before;
        };
    in_time = λ q some.
        by_eq_z q t (λ g. (subst (λ x. least_time ≤ℤ x) (sym g) least, subst (λ x. x ≤ℤ greatest_until) (sym g) greatest))
        (λ g. are.in_time q (subst IsSome (opened.put.others q g) some));
  }

  pub IsEnd-free : (u : ℤ) (o : Span ℕ) → IsEnd n u o → IsEnd m u o
  IsEnd-free u o end = record { start = end.start; owned = end.owned; is = from_m end.start end.owned end.is; until = end.until; owner = end.owner }

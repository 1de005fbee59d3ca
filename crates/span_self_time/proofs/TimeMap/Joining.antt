-- How two segments of one span that touch become one.
use Rattle.std.proofs.{Common.{◌≡◌, ◌≢◌, ℕ, ℤ, pos, ◌-ℤ◌, ◌≤ℤ◌, ◌<ℤ◌, IsSome, Option, Some, None, sym, ap, ◌∙◌, subst, arith}, lemmas.{Grind.common_steps, Int.{ints, by_lt_z}, Option.same_Some}}
use Rattle.span_self_time.specs.{Division.{Owners, owner_of, between, TimeMap.Stretches.{Starts, IsLast, IsHeld, IsOfSegment, IsDivided, IsEnd, IsPut}}, Spans.Span, declared.segment.OwnedSegment.OwnedSegment}
use Rattle.span_self_time.proofs.TimeMap.StretchOwners.{by_eq_z, IsSome-Some, IsSome-None, until-last, last-is, apart, IsHeld-same}

-- where no segment starts at t, the owner of a segment that ends there doesn't go on
pub apart-free : (owners : Owners) (m : Starts) (t : ℤ) (o : Span ℕ) → IsDivided owners m → ((p : OwnedSegment) → m t ≢ Some (Some p)) → IsEnd m t o → owners t ≢ Some o
apart-free owners m t o are free end is =
    let of = are.owned t o is in
    let held = are.held end.start end.owned end.is in
    let some : IsSome (m t) = subst (λ u. IsSome (m u)) end.until held.next.some in
    by_eq_z of.start t (λ h. free of.owned (ap m (sym h) ∙ of.is))
    (λ h.
    let ends = apart owners m of.start t of.owned are of.is some (by_lt_z of.start t (λ g. g) (λ g. absurd (h (omega (arith, ints, of.from))))) in
    omega (arith, ints, of.before))

-- the segment that ends at t starts where the last stretch before t does
pub start-last : (owners : Owners) (m : Starts) (t k : ℤ) (v : Option OwnedSegment) (j : ℤ) (r : OwnedSegment) → IsDivided owners m → IsLast m (t -ℤ pos 1) k v → m j ≡ Some (Some r) → r.segment.until ≡ t → j ≡ k
start-last owners m t k v j r are last is ends =
    let held = are.held j r is in
    last-is owners m (t -ℤ pos 1) k j v r are last is (omega (arith, ints, held.next.later, ends)) (omega (arith, ints, ends))

pub segment-last : (owners : Owners) (m : Starts) (t k : ℤ) (v : Option OwnedSegment) (o : Span ℕ) → IsDivided owners m → IsLast m (t -ℤ pos 1) k v → IsEnd m t o → ((r : OwnedSegment) → v ≡ Some r → owner_of r ≡ o → ⊥) → ⊥
segment-last owners m t k v o are last end none =
    let same = start-last owners m t k v end.start end.owned are last end.is end.until in
    none end.owned (same_Some v (Some end.owned) (sym last.is ∙ ap m (sym same) ∙ end.is)) end.owner

-- no segment ends where none starts before
pub apart-none : (owners : Owners) (m : Starts) (t : ℤ) (o : Span ℕ) → IsDivided owners m → ((q : ℤ) → q ≤ℤ (t -ℤ pos 1) → m q ≡ None) → IsEnd m t o → ⊥
apart-none owners m t o are none end =
    let held = are.held end.start end.owned end.is in
    IsSome-None (m end.start) (none end.start (omega (arith, ints, held.next.later, end.until))) (IsSome-Some (m end.start) _ end.is)

-- the last stretch before t is of another span than the segment at t
pub apart-other : (owners : Owners) (m : Starts) (t k : ℤ) (p later : OwnedSegment) (o : Span ℕ) → IsDivided owners m → IsLast m (t -ℤ pos 1) k (Some p) → m t ≡ Some (Some later) → owner_of p ≢ owner_of later → IsEnd m t o → owners t ≢ Some o
apart-other owners m t k p later o are last here differs end is =
    let held = are.held t later here in
    segment-last owners m t k (Some p) o are last end (λ r same own.
    let first : owner_of p ≡ o = ap owner_of (same_Some p r same) ∙ own in
    let second : owner_of later ≡ o = same_Some _ _ (sym (held.belongs t (omega (arith, ints)) held.next.later) ∙ is) in
    differs (first ∙ sym second))

-- n has one start less, at t
pub record IsJoined (m n : Starts) (t : ℤ) (p later : OwnedSegment) (k : ℤ) : Type 0 where
  pub last : IsLast m (t -ℤ pos 1) k (Some p)
  pub here : m t ≡ Some (Some later)
  pub same : owner_of p ≡ owner_of later
  pub whole : n k ≡ Some (Some (between p p.segment.start later.segment.until))
  pub gone : n t ≡ None
  pub others : (q : ℤ) → q ≢ k → q ≢ t → n q ≡ m q

pub IsJoined-put : (m less n : Starts) (t k : ℤ) (p later : OwnedSegment) → IsLast m (t -ℤ pos 1) k (Some p) → m t ≡ Some (Some later) → owner_of p ≡ owner_of later → IsPut m t None less → IsPut less k (Some (Some (between p p.segment.start later.segment.until))) n → IsJoined m n t p later k
IsJoined-put m less n t k p later last here same gone whole = grind (arith, ints, common_steps)

pub keeps-joined : (m n : Starts) (t k : ℤ) (p later : OwnedSegment) → IsJoined m n t p later k → (q : ℤ) → q ≢ t → IsSome (m q) → IsSome (n q)
keeps-joined m n t k p later join q differs some =
    by_eq_z q k (λ h. IsSome-Some (n q) _ (ap n h ∙ join.whole)) (λ h. subst IsSome (sym (join.others q h differs)) some)

module _ (owners : Owners) (m n : Starts) (t k : ℤ) (p later : OwnedSegment) (are : IsDivided owners m) (join : IsJoined m n t p later k) where
  by_segment : {P : Type 0} (j : ℤ) (r : OwnedSegment) → n j ≡ Some (Some r) → (j ≡ k → between p p.segment.start later.segment.until ≡ r → P) → (j ≢ k → j ≢ t → m j ≡ Some (Some r) → P) → P
  by_segment j r is first other = grind (arith, ints, common_steps)

  until : p.segment.until ≡ t
  until =
      let beyond = until-last owners m (t -ℤ pos 1) k p are join.last in
      let ends = apart owners m k t p are join.last.is (IsSome-Some (m t) _ join.here) (omega (arith, ints, join.last.first)) in
      omega (arith, ints)

  held-whole : IsHeld owners n k (between p p.segment.start later.segment.until)
  held-whole =
      let first = are.held k p join.last.is in
      let second = are.held t later join.here in
      let before = join.last.first in
      let after = second.next.later in
      record {
        start = first.start;
        belongs = λ u from upto.
            by_lt_z u t (λ h. first.belongs u from (omega (arith, ints, until)))
            (λ h. second.belongs u h upto ∙ ap Some (sym join.same));
        next = record {
          some = keeps-joined m n t k p later join later.segment.until (λ e. omega (arith, ints)) second.next.some;
          later = omega (arith, ints);
          none = λ q after upto.
              by_eq_z q t (λ g. ap n g ∙ join.gone)
              (λ g. join.others q (λ e. omega (arith, ints)) g
              ∙ by_lt_z q t (λ h. join.last.none q after (omega (arith, ints))) (λ h. second.next.none q (by_lt_z t q (λ l. l) (λ l. absurd (g (omega (arith, ints))))) upto));
        };
      }

  held-other : (j : ℤ) (r : OwnedSegment) → j ≢ k → j ≢ t → m j ≡ Some (Some r) → IsHeld owners n j r
  held-other j r differs away is =
      let held = are.held j r is in
      IsHeld-same owners m n j r held
      (keeps-joined m n t k p later join r.segment.until (λ ends. differs (start-last owners m t k (Some p) j r are join.last is ends)))
      (λ q after before.
      by_eq_z q k (λ h. absurd (IsSome-None (m q) (held.next.none q after before) (IsSome-Some (m q) _ (ap m h ∙ join.last.is))))
      (λ h. by_eq_z q t (λ g. ap n g ∙ join.gone) (λ g. join.others q h g ∙ held.next.none q after before)))

  of_segment : (u : ℤ) → IsOfSegment m u → IsOfSegment n u
  of_segment u of =
      let second = are.held t later join.here in
      let before = join.last.first in
      by_eq_z of.start k
      (λ h.
      let same : p ≡ of.owned = same_Some _ _ (same_Some _ _ (sym join.last.is ∙ ap m (sym h) ∙ of.is)) in
      let under : u <ℤ p.segment.until = subst (λ (x : OwnedSegment). u <ℤ x.segment.until) (sym same) of.before in
      record { start = k; owned = between p p.segment.start later.segment.until; is = join.whole; from = subst (λ x. x ≤ℤ u) h of.from; before = omega (arith, ints, until, second.next.later) })
      (λ h. by_eq_z of.start t
      (λ g.
      let same : later ≡ of.owned = same_Some _ _ (same_Some _ _ (sym join.here ∙ ap m (sym g) ∙ of.is)) in
      record { start = k; owned = between p p.segment.start later.segment.until; is = join.whole; from = omega (arith, ints, of.from, g); before = subst (λ (x : OwnedSegment). u <ℤ x.segment.until) (sym same) of.before })
      (λ g. record { start = of.start; owned = of.owned; is = join.others of.start h g ∙ of.is; from = of.from; before = of.before }))

  pub IsDivided-joined : IsDivided owners n
  IsDivided-joined = record {
    held = λ j r is. by_segment j r is
        (λ h same. subst (λ x. IsHeld owners n x r) (sym h) (subst (IsHeld owners n k) same held-whole))
        (λ h g here. held-other j r h g here);
    owned = λ u o is. of_segment u (are.owned u o is);
    in_time = λ q some.
        by_eq_z q k (λ h. are.in_time q (IsSome-Some (m q) _ (ap m h ∙ join.last.is)))
        (λ h. by_eq_z q t (λ g. absurd (IsSome-None (n q) (ap n g ∙ join.gone) some)) (λ g. are.in_time q (subst IsSome (join.others q h g) some)));
  }

  -- segments end where they did
  pub IsEnd-joined : (u : ℤ) (o : Span ℕ) → IsEnd n u o → IsEnd m u o
  IsEnd-joined u o end =
      by_segment end.start end.owned end.is
      (λ h same. record { start = t; owned = later; is = join.here; until = ap (λ (x : OwnedSegment). x.segment.until) same ∙ end.until; owner = sym join.same ∙ ap owner_of same ∙ end.owner })
      (λ h g is. record { start = end.start; owned = end.owned; is = is; until = end.until; owner = end.owner })

  -- but for t
  pub apart-joined : (o : Span ℕ) → IsEnd n t o → ⊥
  apart-joined o end =
      by_segment end.start end.owned end.is
      (λ h same.
      let second = are.held t later join.here in
      let ends : later.segment.until ≡ t = ap (λ (x : OwnedSegment). x.segment.until) same ∙ end.until in
      omega (arith, ints, second.next.later))
      (λ h g is. h (start-last owners m t k (Some p) end.start end.owned are join.last is end.until))

-- What the stretches of a division say of its owners.
use Rattle.std.specs.Option.{option_map, is_some}
use Rattle.std.proofs.{Common.{◌≡◌, ◌≢◌, ℕ, ℤ, pos, ◌-ℤ◌, ◌≤ℤ◌, ◌<ℤ◌, IsSome, Option, Some, None, true≢false, refl, sym, ap, ◌∙◌, subst, arith}, lemmas.{Grind.common_steps, Int.{ints, by_lt_z}, Option.same_Some}}
use Rattle.span_self_time.specs.{Division.{Owners, owner_of, Belong, TimeMap.Stretches.{Starts, IsLast, IsNext, IsHeld, IsOfSegment, IsDivided}}, Spans.Span, declared.segment.OwnedSegment.OwnedSegment}

pub by_eq_z : {P : Type 0} (a b : ℤ) → (a ≡ b → P) → (a ≢ b → P) → P
by_eq_z a b same differs = grind (arith, ints, common_steps)

pub IsSome-Some : {A : Type 0} (o : Option A) (x : A) → o ≡ Some x → IsSome o
IsSome-Some o x is = ap is_some is

pub IsSome-None : {A : Type 0} (o : Option A) → o ≡ None → IsSome o → ⊥
IsSome-None o none some = true≢false (sym some ∙ ap is_some none)

-- what starts at k is one stretch
pub same_segment : (m : Starts) (k : ℤ) (v : Option OwnedSegment) (p : OwnedSegment) → m k ≡ Some v → m k ≡ Some (Some p) → v ≡ Some p
same_segment m k v p is owned = same_Some v (Some p) (sym is ∙ owned)

-- a segment that has a tick from k on, where the last stretch up to there starts, starts at k
pub last-is : (owners : Owners) (m : Starts) (t k j : ℤ) (v : Option OwnedSegment) (p : OwnedSegment) → IsDivided owners m → IsLast m t k v → m j ≡ Some (Some p) → j ≤ℤ t → t <ℤ p.segment.until → j ≡ k
last-is owners m t k j v p are last is from before =
    by_lt_z j k
    (λ sooner. absurd (IsSome-None (m k) ((are.held j p is).next.none k sooner (omega (arith, ints, last.first))) (IsSome-Some (m k) v last.is)))
    (λ h. by_lt_z k j
    (λ later. absurd (IsSome-None (m j) (last.none j later from) (IsSome-Some (m j) (Some p) is)))
    (λ g. omega (arith, ints)))

-- a segment ends after the time for which it is the last
pub until-last : (owners : Owners) (m : Starts) (t k : ℤ) (p : OwnedSegment) → IsDivided owners m → IsLast m t k (Some p) → t <ℤ p.segment.until
until-last owners m t k p are last =
    let held = are.held k p last.is in
    by_lt_z t p.segment.until (λ h. h)
    (λ h. absurd (IsSome-None (m p.segment.until) (last.none p.segment.until held.next.later h) held.next.some))

-- what is of no segment has no owner
pub owner-none : (owners : Owners) (m : Starts) (u : ℤ) → IsDivided owners m → (IsOfSegment m u → ⊥) → owners u ≡ None
owner-none owners m u are none = grind (arith, ints, common_steps)

-- the owner of t is that of the last stretch that starts no later
pub owner-last : (owners : Owners) (m : Starts) (t k : ℤ) (v : Option OwnedSegment) → IsDivided owners m → IsLast m t k v → owners t ≡ option_map owner_of v
owner-last owners m t k (Some p) are last = (are.held k p last.is).belongs t last.first (until-last owners m t k p are last)
owner-last owners m t k None are last =
    owner-none owners m t are (λ of.
    let here = last-is owners m t k of.start None of.owned are last of.is of.from of.before in
    let none : None ≡ Some of.owned = same_segment m of.start None of.owned (subst (λ j. m j ≡ Some None) (sym here) last.is) of.is in
    cc)

-- before the first stretch there is no owner
pub owner-before : (owners : Owners) (m : Starts) (t : ℤ) → IsDivided owners m → ((q : ℤ) → q ≤ℤ t → m q ≡ None) → owners t ≡ None
owner-before owners m t are none =
    owner-none owners m t are (λ of. IsSome-None (m of.start) (none of.start of.from) (IsSome-Some (m of.start) (Some of.owned) of.is))

-- up to the next stretch the owner stays
pub Belong-next : (owners : Owners) (m : Starts) (k n : ℤ) (v : Option OwnedSegment) → IsDivided owners m → m k ≡ Some v → IsNext m k n → Belong owners k n (option_map owner_of v)
Belong-next owners m k n v are is next u from before =
    owner-last owners m u k v are (record { is = is; first = from; none = λ q later upto. next.none q later (omega (arith, ints)) })

-- no segment reaches over a start
pub apart : (owners : Owners) (m : Starts) (k j : ℤ) (p : OwnedSegment) → IsDivided owners m → m k ≡ Some (Some p) → IsSome (m j) → k <ℤ j → p.segment.until ≤ℤ j
apart owners m k j p are is some later =
    by_lt_z j p.segment.until (λ h. absurd (IsSome-None (m j) ((are.held k p is).next.none j later h) some)) (λ h. h)

-- where nothing starts the owner stays
pub owner-stays : (owners : Owners) (m : Starts) (t : ℤ) → IsDivided owners m → m t ≡ None → owners (t -ℤ pos 1) ≡ owners t
owner-stays owners m t are none = by_owner (owners t) refl
  where
    gone : (o : Option (Span ℕ)) → owners (t -ℤ pos 1) ≡ o → owners t ≡ None → o ≡ None
    gone None h free = refl
    gone (Some o) h free =
        let of = are.owned (t -ℤ pos 1) o h in
        let held = are.held of.start of.owned of.is in
        by_eq_z of.owned.segment.until t (λ g. absurd (IsSome-None (m t) none (subst (λ u. IsSome (m u)) g held.next.some)))
        (λ g.
        let owned = held.belongs t (omega (arith, ints, of.from)) (by_lt_z t of.owned.segment.until (λ k. k) (λ k. absurd (g (omega (arith, ints, of.before))))) in
        absurd cc)

    by_owner : (o : Option (Span ℕ)) → owners t ≡ o → owners (t -ℤ pos 1) ≡ owners t
    by_owner None h = gone (owners (t -ℤ pos 1)) refl h ∙ sym h
    by_owner (Some o) h =
        let of = are.owned t o h in
        let held = are.held of.start of.owned of.is in
        by_eq_z of.start t (λ g. absurd (IsSome-None (m t) none (IsSome-Some (m t) _ (ap m (sym g) ∙ of.is))))
        (λ g.
        let first : of.start <ℤ t = by_lt_z of.start t (λ k. k) (λ k. absurd (g (omega (arith, ints, of.from)))) in
        held.belongs (t -ℤ pos 1) (omega (arith, ints)) (omega (arith, ints, of.before)) ∙ sym (held.belongs t of.from of.before))

-- a segment stays where nothing new starts in it, and its end stays a start
pub IsHeld-same : (owners : Owners) (m n : Starts) (k : ℤ) (p : OwnedSegment) → IsHeld owners m k p → (IsSome (m p.segment.until) → IsSome (n p.segment.until)) → ((q : ℤ) → k <ℤ q → q <ℤ p.segment.until → n q ≡ None) → IsHeld owners n k p
IsHeld-same owners m n k p held keeps none = grind (arith, ints, common_steps)

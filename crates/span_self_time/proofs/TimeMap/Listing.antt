-- The segments of a division in order.
use Rattle.std.specs.{BTreeMap.{is_at, IsOrdered}, List.{AllByRecursion, Sorted.IsStrictlySortedBy}, Map.{lookup, keys_of, values_of}, Option.is_some, Ordering.{int_cmp, is_eq}, declared.cmp.Ordering.TheVariants.Less}
use Rattle.std.proofs.{Common.{◌≡◌, true, ℤ, pos, ◌+ℤ◌, ◌≤ℤ◌, ◌<ℤ◌, IsSome, List, [], ◌∷◌, length, ◌≤◌, Option, Some, None, refl, sym, ap, ◌∙◌, arith}, lemmas.{Grind.common_steps, Int.{ints, by_lt_z}, Map.Entries.{lookup_head, lookup_tail}, Option.same_Some}}
use Rattle.span_self_time.specs.{least_time, Closed.greatest_until, Division.{Owners, owner_of, AreFuture, AreOwnedSegments, TimeMap.Stretches.{Starts, at, IsDivided, AreWhole, present, segments_in}}, declared.{division.time_map.stretches.Stretches.Stretches, segment.OwnedSegment.OwnedSegment}}
use Rattle.span_self_time.proofs.TimeMap.{Searching.differs, StretchOwners.{by_eq_z, IsSome-Some, IsSome-None, owner-none, apart}}

abbrev Entries : Type 0
Entries = List (ℤ × Option OwnedSegment)

-- the entries are all that starts from t on
abbrev IsRun : Starts → ℤ → Entries → Type 0
IsRun m t [] = (q : ℤ) → t ≤ℤ q → m q ≡ None
IsRun m t (e ∷ es) = (t ≤ℤ e.0) × ((q : ℤ) → t ≤ℤ q → q <ℤ e.0 → m q ≡ None) × (m e.0 ≡ Some e.1) × IsRun m (e.0 +ℤ pos 1) es

IsRun-same : (m n : Starts) (t : ℤ) (es : Entries) → ((q : ℤ) → t ≤ℤ q → n q ≡ m q) → IsRun m t es → IsRun n t es
IsRun-same m n t [] same run = λ q from. same q from ∙ run q from
IsRun-same m n t (e ∷ es) same run =
    (run.0, (λ q from before. same q from ∙ run.1 q from before), same e.0 run.0 ∙ run.2, IsRun-same m n (e.0 +ℤ pos 1) es (λ q from. same q (omega (arith, ints, run.0))) run.3)

abbrev found : Entries → Starts
found es q = lookup (is_at (int_cmp q)) es

-- no key is below t
abbrev StartsFrom : ℤ → Entries → Type 0
StartsFrom t [] = Unit {0}
StartsFrom t (e ∷ es) = t ≤ℤ e.0

StartsFrom-sorted : (e : ℤ × Option OwnedSegment) (es : Entries) → AllByRecursion (λ k. int_cmp e.0 k ≡ Less) (keys_of es) → StartsFrom (e.0 +ℤ pos 1) es
StartsFrom-sorted e [] above = tt
StartsFrom-sorted e (x ∷ es) above = let h : int_cmp e.0 x.0 ≡ Less = above.0 in grind (arith, ints, h)

none-below : (q : ℤ) (e : ℤ × Option OwnedSegment) (es : Entries) → q <ℤ e.0 → StartsFrom (e.0 +ℤ pos 1) es → IsStrictlySortedBy int_cmp (keys_of es) → found (e ∷ es) q ≡ None
unfolding IsStrictlySortedBy
none-below q e [] h starts sorted = lookup_tail (is_at (int_cmp q)) e [] (differs q e.0 (λ same. omega (arith, ints)))
none-below q e (x ∷ es) h starts sorted = grind (arith, ints, common_steps, lookup_tail, StartsFrom-sorted, none-below q x es (omega (arith, ints, starts)) (StartsFrom-sorted x es sorted.0) sorted.1)

is_eq-int_cmp : (k : ℤ) → is_eq (int_cmp k k) ≡ true
is_eq-int_cmp k = grind (arith, ints)

IsRun-found : (t : ℤ) (es : Entries) → IsStrictlySortedBy int_cmp (keys_of es) → StartsFrom t es → IsRun (found es) t es
unfolding IsStrictlySortedBy
IsRun-found t [] sorted starts = λ q from. refl
IsRun-found t (e ∷ es) sorted starts =
    let rest = IsRun-found (e.0 +ℤ pos 1) es sorted.1 (StartsFrom-sorted e es sorted.0) in
    let beyond : (q : ℤ) → (e.0 +ℤ pos 1) ≤ℤ q → found (e ∷ es) q ≡ found es q = λ q from. lookup_tail (is_at (int_cmp q)) e es (differs q e.0 (λ same. omega (arith, ints))) in
    (starts, (λ q from before. below q before), lookup_head (is_at (int_cmp e.0)) e es (is_eq-int_cmp e.0), IsRun-same (found es) (found (e ∷ es)) (e.0 +ℤ pos 1) es beyond rest)
  where
    below : (q : ℤ) → q <ℤ e.0 → found (e ∷ es) q ≡ None
    below q h = none-below q e es h (StartsFrom-sorted e es sorted.0) sorted.1

module _ (owners : Owners) (m : Starts) (are : IsDivided owners m) (whole : AreWhole owners m) where
  -- from t on the segments are those of the entries, of which the first starts from s on
  AreFuture-run : (t s : ℤ) (es : Entries) → t ≤ℤ greatest_until → ((k : ℤ) (p : OwnedSegment) → m k ≡ Some (Some p) → k <ℤ s → p.segment.until ≤ℤ t) → ((q : ℤ) → s ≤ℤ q → IsSome (m q) → t ≤ℤ q) → IsRun m s es → AreFuture owners t (present (values_of es))
  AreFuture-run t s [] last done later run = (
    last,
    λ u from. owner-none owners m u are (λ of.
        by_lt_z of.start s (λ h. let ends = done of.start of.owned of.is h in omega (arith, ints, of.before)) (λ h. IsSome-None (m of.start) (run of.start h) (IsSome-Some (m of.start) _ of.is))),
  )
  AreFuture-run t s ((k, None) ∷ es) last done later run =
      AreFuture-run t (k +ℤ pos 1) es last
      (λ j p is before. by_lt_z j s (λ h. done j p is h)
      (λ h. by_lt_z j k (λ g. absurd (IsSome-None (m j) (run.1 j h g) (IsSome-Some (m j) _ is)))
      (λ g. let here : j ≡ k = omega (arith, ints) in let none : None ≡ Some p = same_Some _ _ (sym run.2 ∙ ap m (sym here) ∙ is) in absurd cc)))
      (λ q from some. later q (omega (arith, ints, run.0)) some)
      run.3
  AreFuture-run t s ((k, Some p) ∷ es) last done later run =
      let held = are.held k p run.2 in
      let first : t ≤ℤ k = later k run.0 (IsSome-Some (m k) _ run.2) in (
        omega (arith, ints, first, held.start),
        (λ u from before. free u from (omega (arith, ints, before, held.start))),
        omega (arith, ints, held.start, held.next.later),
        (λ u from before. held.belongs u (omega (arith, ints, held.start)) before),
        whole p.segment.until (owner_of p) (record { start = k; owned = p; is = run.2; until = refl; owner = refl }),
        AreFuture-run p.segment.until (k +ℤ pos 1) es (are.in_time p.segment.until held.next.some).1
            (λ j r is before. by_eq_z j k
            (λ h. let same : p ≡ r = same_Some _ _ (same_Some _ _ (sym run.2 ∙ ap m (sym h) ∙ is)) in omega (arith, ints, ap (λ (x : OwnedSegment). x.segment.until) same))
            (λ h. let ends = apart owners m j k r are is (IsSome-Some (m k) _ run.2) (by_lt_z j k (λ g. g) (λ g. absurd (h (omega (arith, ints))))) in omega (arith, ints, held.next.later)))
            (λ q from some. apart owners m k q p are run.2 some (omega (arith, ints)))
            run.3,
      )
    where
      free : (u : ℤ) → t ≤ℤ u → u <ℤ k → owners u ≡ None
      free u from before =
          owner-none owners m u are (λ of.
          by_lt_z of.start s (λ h. let ends = done of.start of.owned of.is h in omega (arith, ints, of.before))
          (λ h. IsSome-None (m of.start) (run.1 of.start h (omega (arith, ints, of.from))) (IsSome-Some (m of.start) _ of.is)))

pub AreOwnedSegments-stretches : (owners : Owners) (s : Stretches) → IsDivided owners (at s) → AreWhole owners (at s) → IsOrdered int_cmp s.map → AreOwnedSegments owners (segments_in s)
AreOwnedSegments-stretches owners s are whole ordered = record {
  nothing = λ u before.
      owner-none owners (at s) u are (λ of.
      let from = are.in_time of.start (IsSome-Some (at s of.start) _ of.is) in
      omega (arith, ints, from.0, of.from));
  each = AreFuture-run owners (at s) are whole least_time least_time s.map.entries (omega (arith, ints))
      (λ k p is before. absurd (let from = are.in_time k (IsSome-Some (at s k) _ is) in omega (arith, ints, from.0)))
      (λ q from some. from)
      (IsRun-found least_time s.map.entries ordered (first s.map.entries (λ e es is. (are.in_time e.0 (ap is_some (ap (λ l. found l e.0) is ∙ lookup_head (is_at (int_cmp e.0)) e es (is_eq-int_cmp e.0)))).0)));
}
  where
    first : (es : Entries) → ((e : ℤ × Option OwnedSegment) (rest : Entries) → es ≡ e ∷ rest → least_time ≤ℤ e.0) → StartsFrom least_time es
    first [] h = tt
    first (e ∷ es) h = h e es refl

pub length-present : (segments : List (Option OwnedSegment)) → length (present segments) ≤ length segments
length-present [] = omega arith
length-present (None ∷ segments) = omega (arith, length-present segments)
length-present (Some p ∷ segments) = omega (arith, length-present segments)

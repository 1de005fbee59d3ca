-- In a stretch of time in which no span starts or ends, what the spans cover stays.
use Rattle.std.proofs.{Common.{◌<◌, ◌≡◌, ℕ, ◌+◌, ℤ, pos, ◌≤ℤ◌, ◌<ℤ◌, Bool, not, cond, ◌&&◌, ◌||◌, ◌∙◌, sym, ◌^◌, arith, List, [], ◌∷◌, map, refl, ap, ap₂, All}, lemmas.{Grind.common_steps, Int.{ints, clamps}, List.Elements.{All-head, All-tail}}}
use Rattle.span_self_time.proofs.Counts.{count_from-unbroken, count_from-le, add-distance}
use Rattle.span_closed_spans.specs.{ClosedSpan, least_time, distance, Span, count_from, outranks, is_outranked, is_covered, busy_time, earliest, latest, span_of, greatest_until, IsInTime, Walk.{IsUnbroken, counts}, declared.walk.Counted.{Counted, TheVariants.{OwnOf, Covered}}}

pub is_covered-unbroken : (spans : List ClosedSpan) (u v : ℤ) → All (λ span. IsUnbroken (span_of span) u v) spans → (w : ℤ) → u ≤ℤ w → w <ℤ v → is_covered (map span_of spans) w ≡ is_covered (map span_of spans) u
is_covered-unbroken [] u v unbroken w from before = refl
is_covered-unbroken (x ∷ spans) u v unbroken w from before =
    ap₂ ◌||◌ (All-head (λ (span : ClosedSpan). IsUnbroken (span_of span) u v) x spans unbroken w from before)
    (is_covered-unbroken spans u v (All-tail (λ (span : ClosedSpan). IsUnbroken (span_of span) u v) x spans unbroken) w from before)

pub is_outranked-unbroken : (spans : List ClosedSpan) (s : Span ℕ) (u v : ℤ) → All (λ span. IsUnbroken (span_of span) u v) spans → (w : ℤ) → u ≤ℤ w → w <ℤ v → is_outranked (map span_of spans) s w ≡ is_outranked (map span_of spans) s u
is_outranked-unbroken [] s u v unbroken w from before = refl
is_outranked-unbroken (x ∷ spans) s u v unbroken w from before =
    ap₂ ◌||◌ (ap (λ b. b && outranks (span_of x) s) (All-head (λ (span : ClosedSpan). IsUnbroken (span_of span) u v) x spans unbroken w from before))
    (is_outranked-unbroken spans s u v (All-tail (λ (span : ClosedSpan). IsUnbroken (span_of span) u v) x spans unbroken) w from before)

counts-unbroken : (spans : List ClosedSpan) (c : Counted) (u v : ℤ) → All (λ span. IsUnbroken (span_of span) u v) spans → (w : ℤ) → u ≤ℤ w → w <ℤ v → counts (map span_of spans) c w ≡ counts (map span_of spans) c u
counts-unbroken spans (OwnOf s) u v unbroken w from before = ap not (is_outranked-unbroken spans (span_of s.now) u v unbroken w from before)
counts-unbroken spans Covered u v unbroken w from before = is_covered-unbroken spans u v unbroken w from before

-- how many ticks count from u to an end
unfoldable pub counted_from : List (Span ℕ) → Counted → ℤ → ℤ → ℕ
counted_from spans c u end = count_from u (distance u end) (counts spans c)

pub counted_from-is : (spans : List (Span ℕ)) (c : Counted) (u end : ℤ) → counted_from spans c u end ≡ count_from u (distance u end) (counts spans c)
unfolding counted_from
counted_from-is spans c u end = refl

pub counted_from-end : (spans : List (Span ℕ)) (c : Counted) (u end : ℤ) → u ≡ end → counted_from spans c u end ≡ 0
unfolding counted_from
counted_from-end spans c u end ends = grind (arith, ints, common_steps)

pub counted_from-step : (spans : List ClosedSpan) (c : Counted) (u v end : ℤ) (b : Bool) → u ≤ℤ v → v ≤ℤ end → All (λ span. IsUnbroken (span_of span) u v) spans → b ≡ counts (map span_of spans) c u → counted_from (map span_of spans) c u end ≡ cond b (distance u v) 0 + counted_from (map span_of spans) c v end
unfolding counted_from
counted_from-step spans c u v end b first then unbroken here =
    count_from-unbroken (counts (map span_of spans) c) (counts (map span_of spans) c u) u v end first then (counts-unbroken spans c u v unbroken)
    ∙ ap (λ t. cond t (distance u v) 0 + counted_from (map span_of spans) c v end) (sym here)

pub counted_from-le : (spans : List (Span ℕ)) (c : Counted) (u end : ℤ) → u ≤ℤ end → least_time ≤ℤ u → end ≤ℤ greatest_until → counted_from spans c u end < 2 ^ 64
unfolding counted_from
counted_from-le spans c u end forward from to =
    omega (arith, ints, add-distance u end forward, count_from-le (counts spans c) u (distance u end))

pub earliest-le : {N : Type 0} (spans : List (Span N)) → earliest spans ≤ℤ pos 0
earliest-le [] = omega (arith, ints)
earliest-le (s ∷ spans) = omega (arith, ints, clamps, earliest-le spans)

pub le-latest : {N : Type 0} (spans : List (Span N)) → pos 0 ≤ℤ latest spans
le-latest [] = omega (arith, ints)
le-latest (s ∷ spans) = omega (arith, ints, clamps, le-latest spans)

-- from the earliest time to the latest
pub record IsSpanned (spans : List (Span ℕ)) : Type 0 where
  pub from : least_time ≤ℤ earliest spans
  pub first : earliest spans ≤ℤ pos 0
  pub then : pos 0 ≤ℤ latest spans
  pub to : latest spans ≤ℤ greatest_until

pub IsSpanned-in_time : (spans : List (Span ℕ)) → All IsInTime spans → IsSpanned spans
IsSpanned-in_time [] in_time = record { from = omega (arith, ints); first = omega (arith, ints); then = omega (arith, ints); to = omega (arith, ints) }
IsSpanned-in_time (s ∷ spans) in_time =
    let here = All-head IsInTime s spans in_time in
    let rest = IsSpanned-in_time spans (All-tail IsInTime s spans in_time) in
    record { from = omega (arith, ints, clamps); first = omega (arith, ints, clamps); then = omega (arith, ints, clamps); to = omega (arith, ints, clamps) }

pub busy_time-le : (spans : List (Span ℕ)) → All IsInTime spans → busy_time spans < 2 ^ 64
busy_time-le spans in_time =
    let spanned = IsSpanned-in_time spans in_time in
    omega (arith, counted_from-is spans Covered (earliest spans) (latest spans), counted_from-le spans Covered (earliest spans) (latest spans) (omega (arith, ints)) spanned.from spanned.to)

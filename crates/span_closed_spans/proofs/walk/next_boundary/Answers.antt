use Rattle.std.proofs.{Common.{rules, ◌≡◌, ◌⊎◌, inl, inr, ℤ, ◌≤ℤ◌, ◌<ℤ◌, All, List, ℕ, ◌+◌, ◌<◌, length, take, get_or, w64, to_z, of_z, to_z-of_z, ap₂, ◌&&◌, int_le, int_lt, arith, take_all, subst}, lemmas.{Int.ints, List.Elements.{All-weaker, All-more}}}
use Rattle.span_closed_spans.specs.{Span, ClosedSpan, span_of, Walk.IsUnbroken}
use Rattle.span_closed_spans.proofs.walk.next_boundary.Goals as goal

int_le-away : (at u v w : ℤ) → (at ≤ℤ u) ⊎ (v ≤ℤ at) → u ≤ℤ w → w <ℤ v → int_le at w ≡ int_le at u
int_le-away at u v w (inl before) from until = grind (arith, ints)
int_le-away at u v w (inr after) from until = grind (arith, ints)

int_lt-away : (at u v w : ℤ) → (at ≤ℤ u) ⊎ (v ≤ℤ at) → u ≤ℤ w → w <ℤ v → int_lt w at ≡ int_lt u at
int_lt-away at u v w (inl before) from until = grind (arith, ints)
int_lt-away at u v w (inr after) from until = grind (arith, ints)

-- neither end of the span lies between
IsUnbroken-away : (s : Span ℕ) (u v : ℤ) → (s.start ≤ℤ u) ⊎ (v ≤ℤ s.start) → (s.until ≤ℤ u) ⊎ (v ≤ℤ s.until) → IsUnbroken s u v
IsUnbroken-away s u v starts ends = λ w from before.
    ap₂ ◌&&◌ (int_le-away s.start u v w starts from before) (int_lt-away s.until u v w ends from before)

IsUnbroken-shorter : (u v shorter : ℤ) (spans : _) → shorter ≤ℤ v → All (λ span. IsUnbroken (span_of span) u v) spans → All (λ span. IsUnbroken (span_of span) u shorter) spans
IsUnbroken-shorter u v shorter spans h unbroken =
    All-weaker (λ (span : ClosedSpan). IsUnbroken (span_of span) u v) (λ (span : ClosedSpan). IsUnbroken (span_of span) u shorter) (λ span whole w from before. whole w from (omega (arith, ints))) spans unbroken

away_from_less : (at u v less : ℤ) → less ≤ℤ v → (at ≤ℤ u) ⊎ (v ≤ℤ at) → (at ≤ℤ u) ⊎ (less ≤ℤ at)
away_from_less at u v less h (inl before) = inl before
away_from_less at u v less h (inr after) = inr (omega (arith, ints))

unbroken_more : (spans : List ClosedSpan) (i : ℕ) (s : ClosedSpan) (u v shorter : ℤ) → i < length spans → s ≡ get_or spans i s → shorter ≤ℤ v → IsUnbroken (span_of s) u shorter → All (λ span. IsUnbroken (span_of span) u v) (take i spans) → All (λ span. IsUnbroken (span_of span) u shorter) (take (i + 1) spans)
unbroken_more spans i s u v shorter within read h here before =
    All-more (λ (span : ClosedSpan). IsUnbroken (span_of span) u shorter) spans i s within (IsUnbroken-shorter u v shorter (take i spans) h before)
    (subst (λ (x : ClosedSpan). IsUnbroken (span_of x) u shorter) read here)

pub loop-span-preserved : goal.loop-span-preserved
loop-span-preserved c =
    let u = to_z w64 (of_z w64 c.args.u) in
    let next = to_z w64 (of_z w64 c.nearer-next.result) in
    let kept : next ≡ c.nearer-next.result = omega (arith, ints) in
    let first : to_z w64 (of_z w64 c.nearer.result) ≡ c.nearer.result = omega (arith, ints) in
    let start : to_z w64 (of_z w64 c.span-item.result.start) ≡ c.span-item.result.start = search rules in
    let until : to_z w64 (of_z w64 c.span-item.result.until) ≡ c.span-item.result.until = search rules in
    let starts : (c.span-item.result.start ≤ℤ u) ⊎ (next ≤ℤ c.span-item.result.start) = away_from_less _ u c.nearer.result next (omega (arith, ints)) (rw start at c.nearer.ensures.away) in
    let ends : (c.span-item.result.until ≤ℤ u) ⊎ (next ≤ℤ c.span-item.result.until) = away_from_less _ u c.nearer-next.result next (omega (arith, ints)) (rw until at c.nearer-next.ensures.away) in
    (omega (arith, ints), omega (arith, ints), unbroken_more c.args.spans.now c.loop-span.span-index c.span-item.result u (to_z w64 c.loop-span.next-bits) next c.loop-span-test.true c.span-item.is (omega (arith, ints)) (IsUnbroken-away (span_of c.span-item.result) u next starts ends) c.loop-span.invariant.2)

pub returns-clause-unbroken : goal.returns-clause-unbroken
returns-clause-unbroken c =
    let all = take_all c.loop-span.span-index c.args.spans.now c.loop-span-test.false in
    let u : to_z w64 (of_z w64 c.args.u) ≡ c.args.u = to_z-of_z c.ranges.u in
    subst (λ (l : List ClosedSpan). All (λ span. IsUnbroken (span_of span) c.args.u (to_z w64 c.loop-span.next-bits)) l) all
    (rw u at c.loop-span.invariant.2)

-- That the segments of one span are together as long as its self time.
use Rattle.std.specs.List.{sum_by}
use Rattle.std.proofs.{Common.{◌≡◌, ◌≢◌, ℕ, ◌+◌, Bool, false, cond, nat_eq, ℤ, ◌≤ℤ◌, List, [], ◌∷◌, Option, Some, None, get_or, refl, sym, ap, ◌∙◌, arith, All, eq-eqb, ne_eqb}, lemmas.{Int.ints, List.{Elements.{All-cons, All-head, All-nil, All-tail}, Sums.sum_by-cons}}}
use Rattle.span_self_time.specs.{distance, least_time, Closed.{greatest_until, AreClosed}, Division.{Owners, owner_of, owners_of, AreFuture, AreOwnedSegments, Lengths.{time_at, length_at, CanGain}, OwnTimes.time_of, SegmentStacks.segment_length}, Laws.AreSpans, Spans.{Span, count_from, self_time}, declared.{division.lengths.Lengths.Lengths, segment.OwnedSegment.OwnedSegment}}
use Rattle.span_self_time.proofs.{Apart.All-apart, Counts.{count_from-none, count_from-unbroken}, Owners.is_of, SpanTimes.time_of-owners_of, Times.time_of-le}

AreFuture-within : (owners : Owners) (t : ℤ) (segments : List OwnedSegment) → AreFuture owners t segments → t ≤ℤ greatest_until
AreFuture-within owners t [] are = are.0
AreFuture-within owners t (p ∷ segments) are =
    omega (arith, ints, are.0, are.2, AreFuture-within owners p.segment.until segments are.5)

-- the segments whose span passes a test are as long as the time in which the owner passes it
sum_by-future : (q : Option (Span ℕ) → Bool) → q None ≡ false → (owners : Owners) (t : ℤ) (segments : List OwnedSegment) → AreFuture owners t segments → sum_by (λ p. cond (q (Some (owner_of p))) (segment_length p) 0) segments ≡ count_from t (distance t greatest_until) (λ u. q (owners u))
sum_by-future q none owners t [] are = sym (count_from-none (λ u. q (owners u)) t (distance t greatest_until) (λ u from before. ap q (are.1 u from) ∙ none))
sum_by-future q none owners t (p ∷ segments) are =
    let ends = AreFuture-within owners p.segment.until segments are.5 in
    let before = count_from-unbroken (λ u. q (owners u)) false t p.segment.start greatest_until are.0 (omega (arith, ints, are.2, ends)) (λ u from under. ap q (are.1 u from under) ∙ none) in
    let here = count_from-unbroken (λ u. q (owners u)) (q (Some (owner_of p))) p.segment.start p.segment.until greatest_until (omega (arith, ints, are.2)) ends (λ u from under. ap q (are.3 u from under)) in
    sum_by-cons (λ (x : OwnedSegment). cond (q (Some (owner_of x))) (segment_length x) 0) p segments
    ∙ ap (λ n. cond (q (Some (owner_of p))) (segment_length p) 0 + n) (sum_by-future q none owners p.segment.until segments are.5)
    ∙ sym here ∙ sym (omega (arith, before))

length_at-time_of : (at : ℕ) (owners : Owners) (segments : List OwnedSegment) → AreOwnedSegments owners segments → length_at at segments ≡ time_of (is_of at) owners
unfolding time_of
length_at-time_of at owners segments are = from least_time are.each
  where
    from : (a : ℤ) → AreFuture owners a segments → length_at at segments ≡ count_from a (distance a greatest_until) (λ u. is_of at (owners u))
    from a = sum_by-future (is_of at) refl owners a segments

-- where nothing was gained, each position can gain its part of the whole time
pub CanGain-none : (times : Lengths) (owners : Owners) (segments : List OwnedSegment) → ((at : ℕ) → time_at times at ≡ 0) → AreOwnedSegments owners segments → CanGain times segments
CanGain-none times owners segments none are = λ at.
    omega (arith, none at, length_at-time_of at owners segments are, time_of-le (is_of at) owners)

-- what the rest of the segments add to what was gained of them is what all of them add
abbrev pub IsLeft : Lengths → Lengths → List OwnedSegment → List OwnedSegment → Type 0
IsLeft first times all rest = (at : ℕ) → time_at times at + length_at at rest ≡ time_at first at + length_at at all

-- a span counts where its position is asked for, and no other does
sum_by-at : (f : Span ℕ → ℕ) (spans : List (Span ℕ)) → AreSpans spans → All (λ s. sum_by (λ x. cond (nat_eq x.at s.at) (f x) 0) spans ≡ f s) spans
sum_by-at f [] are = All-nil (λ (s : Span ℕ). sum_by (λ x. cond (nat_eq x.at s.at) (f x) 0) [] ≡ f s)
sum_by-at f (s ∷ spans) are =
    let apart = All-apart s.at spans are.1 in
    All-cons (λ (y : Span ℕ). sum_by (λ x. cond (nat_eq x.at y.at) (f x) 0) (s ∷ spans) ≡ f y) s spans
    (omega (arith, sum_by-cons (λ x. cond (nat_eq x.at s.at) (f x) 0) s spans, ap (λ b. cond b (f s) 0) (eq-eqb s.at s.at refl), none s.at spans apart))
    (λ k d within.
    let y = get_or spans k d in
    omega (arith, sum_by-cons (λ x. cond (nat_eq x.at y.at) (f x) 0) s spans, ap (λ b. cond b (f s) 0) (ne_eqb s.at y.at (λ same. apart k d within (sym same))), sum_by-at f spans are.2 k d within))
  where
    none : (at : ℕ) (spans : List (Span ℕ)) → All (λ x. x.at ≢ at) spans → sum_by (λ x. cond (nat_eq x.at at) (f x) 0) spans ≡ 0
    none at [] apart = refl
    none at (x ∷ spans) apart =
        omega (arith, sum_by-cons (λ y. cond (nat_eq y.at at) (f y) 0) x spans, ap (λ b. cond b (f x) 0) (ne_eqb x.at at (All-head (λ (y : Span ℕ). y.at ≢ at) x spans apart)), none at spans (All-tail (λ (y : Span ℕ). y.at ≢ at) x spans apart))

-- the segments of a span are as long as its self time
pub length_at-self_time : (spans : List (Span ℕ)) (segments : List OwnedSegment) → AreClosed spans → AreOwnedSegments (owners_of spans) segments → All (λ s. length_at s.at segments ≡ self_time spans s) spans
length_at-self_time spans segments closed are = λ k d within.
    let at = (get_or spans k d).at in
    length_at-time_of at (owners_of spans) segments are ∙ time_of-owners_of (is_of at) refl spans closed ∙ sum_by-at (self_time spans) spans closed.are k d within

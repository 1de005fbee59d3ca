-- How a span's time that reaches to a new stretch is joined with it.
use Rattle.std.proofs.{Common.{◌≡◌, ◌≢◌, ℕ, ◌-◌, length, ℤ, pos, ◌-ℤ◌, ◌<ℤ◌, List, [], ◌∷◌, ◌++◌, reverse, slice_get, Some, refl, sym, ap, ◌∙◌, arith}, lemmas.{Grind.common_steps, Int.{ints, by_lt_z}}}
use Rattle.span_self_time.specs.{Division.{Owners, owner_of, Belong, between, SegmentStacks.{ArePast, IsOnly, IsTakenBack}}, Spans.Span, declared.segment.OwnedSegment.OwnedSegment}
use Rattle.span_self_time.proofs.SegmentStacks.{Cursor.Some≢None, Ends.{slice_get-reverse}}

-- the last segment is the span's, so it is taken back
pub IsTakenBack-last : (s : Span ℕ) (from : ℤ) (rest : List OwnedSegment) (p : OwnedSegment) (owners : Owners) → IsOnly s owners → ArePast owners from (reverse (rest ++ p ∷ [])) → p.segment.at ≡ s.at → p.segment.until ≡ from → IsTakenBack s p.segment.start from rest owners
IsTakenBack-last s from rest p owners only past at ends = grind (arith, ints, common_steps)

-- the span's time doesn't reach to `from`, where the last segment is not of the span or ends sooner
ArePast-apart : (s : Span ℕ) (from : ℤ) (segments : List OwnedSegment) (owners : Owners) → IsOnly s owners → ArePast owners from segments → ((p : OwnedSegment) → slice_get segments 0 ≡ Some p → p.segment.at ≡ s.at → p.segment.until ≢ from) → owners (from -ℤ pos 1) ≢ Some s
ArePast-apart s from [] owners only past apart = λ here. Some≢None (sym here ∙ past.1 (from -ℤ pos 1) (omega (arith, ints)))
ArePast-apart s from (p ∷ segments) owners only past apart =
    by_lt_z p.segment.until from
    (λ k here. Some≢None (sym here ∙ past.1 (from -ℤ pos 1) (omega (arith, ints)) (omega (arith, ints))))
    (λ k here.
    let ends : p.segment.until ≡ from = omega (arith, ints, past.0) in
    let own : Some s ≡ Some (owner_of p) = sym here ∙ past.3 (from -ℤ pos 1) (omega (arith, ints, past.2)) (omega (arith, ints)) in
    let same : s ≡ owner_of p = cc in
    apart p refl (ap (λ (o : Span ℕ). o.at) (sym same)) ends)

pub IsTakenBack-apart : (s : Span ℕ) (from : ℤ) (segments : List OwnedSegment) (owners : Owners) → IsOnly s owners → ArePast owners from (reverse segments) → ((p : OwnedSegment) → slice_get segments (length segments - 1) ≡ Some p → p.segment.at ≡ s.at → p.segment.until ≢ from) → IsTakenBack s from from segments owners
IsTakenBack-apart s from segments owners only past apart = grind (arith, ints, common_steps, ArePast-apart, slice_get-reverse)

-- what the span has before `from` and what it has from there on are one segment
pub ArePast-taken_back : (span : OwnedSegment) (start from until : ℤ) (rest : List OwnedSegment) (owners : Owners) → from <ℤ until → Belong owners from until (Some (owner_of span)) → IsTakenBack (owner_of span) start from rest owners → ArePast owners until (reverse (rest ++ between span start until ∷ []))
ArePast-taken_back span start from until rest owners forward belongs at = grind (arith, ints, common_steps)

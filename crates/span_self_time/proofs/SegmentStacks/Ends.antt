-- How segments move between the past and the future of a cursor, and what lies at the two ends that meet there.
use Rattle.std.proofs.{Common.{◌≡◌, ◌≤◌, ◌<◌, ℕ, ◌+◌, ◌-◌, length, length-append, get_or, ℤ, ◌<ℤ◌, true, true≢false, List, [], ◌∷◌, ◌++◌, reverse, slice_get, Some, refl, sym, ap, ◌∙◌, arith}, lemmas.{Int.ints, List.{reverse-append, length-reverse, get_or-append_right, get_or-reverse}, Option.slice_get-get_or}}
use Rattle.span_self_time.specs.{Division.{Owners, AreFuture, SegmentStacks.{segments_of, starts_before}}, declared.segment.OwnedSegment.OwnedSegment}

pub reverse-push : {A : Type 0} (xs : List A) (x : A) → reverse (xs ++ x ∷ []) ≡ x ∷ reverse xs
reverse-push xs x = reverse-append xs (x ∷ [])

-- the time before a segment is sooner than any by which the segment has started
pub starts_before-future : (owners : Owners) (t until : ℤ) (segments : List OwnedSegment) → AreFuture owners t segments → starts_before until segments ≡ true → t <ℤ until
starts_before-future owners t until [] after h = absurd (true≢false (sym h))
starts_before-future owners t until (p ∷ segments) after h = omega (arith, ints, after.0, h)

-- a segment behind the cursor
pub get_or-segments_of : (past future : List OwnedSegment) (i : ℕ) (d : OwnedSegment) → length past ≤ i → i - length past < length future → get_or (segments_of past future) i d ≡ get_or future (length future - 1 - (i - length past)) d
get_or-segments_of past future i d from within =
    get_or-append_right past (reverse future) (length past) i d refl from ∙ get_or-reverse future (i - length past) d within

pub length-segments_of : (past future : List OwnedSegment) → length (segments_of past future) ≡ length past + length future
length-segments_of past future = length-append past (reverse future) ∙ ap (λ n. length past + n) (length-reverse future)

-- the last segment stands first in the past
pub slice_get-reverse : (segments : List OwnedSegment) → slice_get (reverse segments) 0 ≡ slice_get segments (length segments - 1)
slice_get-reverse [] = refl
slice_get-reverse (p ∷ segments) =
    let some : 0 < length (p ∷ segments) = omega arith in
    let turned : 0 < length (reverse (p ∷ segments)) = omega (arith, some, length-reverse (p ∷ segments)) in
    let last : length (p ∷ segments) - 1 - 0 ≡ length (p ∷ segments) - 1 = omega arith in
    slice_get-get_or (reverse (p ∷ segments)) 0 p turned ∙ ap Some (get_or-reverse (p ∷ segments) 0 p some ∙ ap (λ k. get_or (p ∷ segments) k p) last)
    ∙ sym (slice_get-get_or (p ∷ segments) (length (p ∷ segments) - 1) p (omega (arith, some)))

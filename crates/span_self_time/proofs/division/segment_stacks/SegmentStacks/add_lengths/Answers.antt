use Rattle.std.specs.List.{sum_by}
use Rattle.std.proofs.{Common.{◌≡◌, ◌+◌, ℕ, cond, nat_eq, List, [], ◌∷◌, reverse, refl, ap, ◌∙◌, arith}, lemmas.List.{reverse-append, Sums.{sum_by-cons, sum_by_push, sum_by-append}}}
use Rattle.span_self_time.specs.{Division.{Lengths.length_at, SegmentStacks.{segment_length, segments_of}}, declared.segment.OwnedSegment.OwnedSegment}
use Rattle.span_self_time.proofs.division.segment_stacks.SegmentStacks.add_lengths.Goals as goal

sum_by-reverse : {A : Type 0} (f : A → ℕ) (xs : List A) → sum_by f (reverse xs) ≡ sum_by f xs
sum_by-reverse f [] = refl
sum_by-reverse f (x ∷ xs) =
    ap (sum_by f) (reverse-append (x ∷ []) xs) ∙ omega (arith, sum_by_push f (reverse xs) x, sum_by-cons f x xs, sum_by-reverse f xs)

length_at-segments_of : (at : ℕ) (past future : List OwnedSegment) → length_at at (segments_of past future) ≡ length_at at past + length_at at future
length_at-segments_of at past future =
    let f = λ (p : OwnedSegment). cond (nat_eq p.segment.at at) (segment_length p) 0 in
    omega (arith, sum_by-append f past (reverse future), sum_by-reverse f future)

pub gain_segments-requires-2 : goal.gain_segments-requires-2
gain_segments-requires-2 c = λ at.
    omega (arith, c.requires at, length_at-segments_of at c.args.self.now.past.items c.args.self.now.future.items, c.in_ok-gain_segments.ensures at, ap (length_at at) c.deref.ensures.value, ap (length_at at) c.deref-2.ensures.value)

pub returns : goal.returns
returns c = λ at.
    omega (arith, length_at-segments_of at c.args.self.now.past.items c.args.self.now.future.items, c.in_ok-gain_segments.ensures at, c.in_ok-gain_segments-2.ensures at, ap (length_at at) c.deref.ensures.value, ap (length_at at) c.deref-2.ensures.value)

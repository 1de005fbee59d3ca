use Rattle.std.proofs.{Common.{◌≡◌, ℕ, map, reverse, take, sym, ap, ◌∙◌, w64, to_z, of_z, to_z-of_z}, lemmas.{List.take_all, Simd.map-map}}
use Rattle.span_keyed_tracks.proofs.Matching.Mapped.{map-reverse}
use Rattle.span_track.specs.{span_of, Span, Kept.begin_of, Nesting.{Begin, span_sealed}, Thread.ThreadSpans, declared.thread.OpenSpan.OpenSpan}
use Rattle.span_track.proofs.thread.ThreadTrack.sealed_at.Goals as goal

pub returns : goal.returns
returns c =
    let items = c.self.inside.opened.items in
    let seal : OpenSpan → Span ℕ = λ o. span_sealed (begin_of o) c.args.ts in
    let ts : to_z w64 (of_z w64 c.args.ts) ≡ c.args.ts = to_z-of_z c.ranges.ts in
    let all : take c.loop-begin.begin-index c.deref-begin-items.result.now ≡ items = take_all c.loop-begin.begin-index c.deref-begin-items.result.now c.loop-begin-test.false ∙ c.deref-begin-items.ensures.value in
    let made : map span_of c.loop-begin.sealed.items ≡ map seal items = (rw ts at c.loop-begin.invariant) ∙ ap (map seal) all in
    ap (map span_of) c.reverse.ensures.items ∙ map-reverse span_of c.loop-begin.sealed.items ∙ ap reverse (made ∙ sym (map-map (λ (b : Begin ℕ). span_sealed b c.args.ts) begin_of items))
    ∙ sym (map-reverse (λ (b : Begin ℕ). span_sealed b c.args.ts) (map begin_of items))
    ∙ ap (λ (t : ThreadSpans ℕ). map (λ (b : Begin ℕ). span_sealed b c.args.ts) (reverse t.opened)) c.self.view_is

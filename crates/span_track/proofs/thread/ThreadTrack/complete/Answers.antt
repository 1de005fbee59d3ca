use Rattle.std.proofs.{Common.{rules, ◌≡◌, ℕ, pos, ◌+ℤ◌, [], ◌∷◌, ◌++◌, map, refl, sym, ap, ◌∙◌, subst, w64, to_z, of_z, to_z-of_z, arith}, lemmas.Int.ints}
use Rattle.span_track.specs.{Span, Kept.begin_of, Nesting.later, Thread.{ThreadSpans, thread_spans, HasRoom, IsNext, IsSealTime}}
use Rattle.span_track.proofs.Threads.{Sound.IsSound-with_whole, Spans.{with_whole, thread_spans-completed}}
use Rattle.span_track.proofs.thread.ThreadTrack.complete.Goals as goal

pub invariant_of-self-2 : goal.invariant_of-self-2
invariant_of-self-2 c =
    let old : ThreadSpans ℕ = record { opened = map begin_of c.self.inside.opened.items; closed = c.self.inside.closed; last = c.self.inside.last; latest = c.self.inside.latest } in
    let span : Span ℕ = record { name = c.args.name; start = to_z w64 (of_z w64 c.args.ts); until = to_z w64 (of_z w64 (to_z w64 (of_z w64 c.args.ts) +ℤ to_z w64 c.args.dur)); at = c.args.at; args = c.in_ok-args.args } in
    let closed : c.add.new.self ≡ c.self.inside.closed ++ span ∷ [] = search rules in
    let room : HasRoom old = subst (λ (t : ThreadSpans ℕ). HasRoom t) (sym c.self.view_is) c.requires.room in
    let next : IsNext c.args.at old = subst (λ (t : ThreadSpans ℕ). IsNext c.args.at t) (sym c.self.view_is) c.requires.next in
    let seen : c.later-self-inside.result ≡ later c.self.inside.latest span.until = c.later-self-inside.ensures in
    let in_time : IsSealTime span.until = (omega (arith, ints, c.requires.in_time.0, c.requires.in_time.1, c.requires.lasts), omega (arith, ints, c.requires.in_time.0, c.requires.in_time.1, c.requires.lasts)) in
    rw (closed, seen) (IsSound-with_whole old span c.self.invariant room next in_time)

pub returns-clause-stands : goal.returns-clause-stands
returns-clause-stands c = λ es stands.
    let old : ThreadSpans ℕ = record { opened = map begin_of c.self.inside.opened.items; closed = c.self.inside.closed; last = c.self.inside.last; latest = c.self.inside.latest } in
    let span : Span ℕ = record { name = c.args.name; start = c.args.ts; until = c.args.ts +ℤ pos c.args.dur; at = c.args.at; args = c.args.args.now } in
    let start : to_z w64 (of_z w64 c.args.ts) ≡ c.args.ts = to_z-of_z c.ranges.ts in
    let until : to_z w64 (of_z w64 (to_z w64 (of_z w64 c.args.ts) +ℤ to_z w64 c.args.dur)) ≡ (c.args.ts +ℤ pos c.args.dur) = omega (arith, ints) in
    let args : c.in_ok-args.args ≡ c.args.args.now = search rules in
    let whole : Span ℕ = record { name = c.args.name; start = to_z w64 (of_z w64 c.args.ts); until = to_z w64 (of_z w64 (to_z w64 (of_z w64 c.args.ts) +ℤ to_z w64 c.args.dur)); at = c.args.at; args = c.in_ok-args.args } in
    let added : c.add.new.self ≡ c.self.inside.closed ++ whole ∷ [] = search rules in
    let closed : c.add.new.self ≡ c.self.inside.closed ++ span ∷ [] = added ∙ rw (until, start, args) refl in
    let before : old ≡ thread_spans es = c.self.view_is ∙ stands in
    let seen : c.later-self-inside.result ≡ later c.self.inside.latest span.until = c.later-self-inside.ensures ∙ ap (later c.self.inside.latest) until in
    rw (closed, seen) (ap (λ t. with_whole t span) before ∙ sym (thread_spans-completed es span))

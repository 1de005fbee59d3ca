use Rattle.std.proofs.Common.{rules, ◌≡◌, ℕ, false, None, [], ◌++◌, map, sym, ap, subst, ◌∙◌, w64, to_z, of_z, to_z-of_z}
use Rattle.span_track.specs.{span_of, Kept.begin_of, Nesting.later, Thread.{ThreadSpans, thread_spans, any_name, goes_back, end_refusal}}
use Rattle.span_track.proofs.Threads.{Closing.goes_back-taken, Sealing.{sealed_spans, CanJoin-sealed_spans}, Spans.{with_seal, thread_spans-sealed}}
use Rattle.span_track.proofs.thread.ThreadTrack.seal_all.Goals as goal

pub add_all-requires : goal.add_all-requires
add_all-requires c =
    let old : ThreadSpans ℕ = record { opened = map begin_of c.self.inside.opened.items; closed = c.self.inside.closed; last = c.self.inside.last; latest = c.self.inside.latest } in
    let taken : end_refusal any_name c.args.self.now c.args.ts ≡ None = search rules in
    let not_back : goes_back c.args.ts c.self.inside.last ≡ false = subst (λ (t : ThreadSpans ℕ). goes_back c.args.ts t.last ≡ false) (sym c.self.view_is) (goes_back-taken any_name c.args.self.now c.args.ts taken) in
    let made : map span_of c.in_ok-sealed.sealed.items ≡ sealed_spans c.args.ts c.args.self.now.opened = search rules in
    let own : map span_of c.in_ok-sealed.sealed.items ≡ sealed_spans c.args.ts old.opened = made ∙ ap (λ (t : ThreadSpans ℕ). sealed_spans c.args.ts t.opened) (sym c.self.view_is) in
    rw own (CanJoin-sealed_spans old c.args.ts c.self.invariant not_back c.requires.in_time)

pub returns-clause-stands : goal.returns-clause-stands
returns-clause-stands c = λ es stands.
    let old : ThreadSpans ℕ = record { opened = map begin_of c.self.inside.opened.items; closed = c.self.inside.closed; last = c.self.inside.last; latest = c.self.inside.latest } in
    let ts : to_z w64 (of_z w64 c.args.ts) ≡ c.args.ts = to_z-of_z c.ranges.ts in
    let made : map span_of c.in_ok-sealed.sealed.items ≡ sealed_spans c.args.ts c.args.self.now.opened = search rules in
    let own : map span_of c.in_ok-sealed.sealed.items ≡ sealed_spans c.args.ts old.opened = made ∙ ap (λ (t : ThreadSpans ℕ). sealed_spans c.args.ts t.opened) (sym c.self.view_is) in
    let added : c.add_all.new.self ≡ c.self.inside.closed ++ map span_of c.in_ok-sealed.sealed.items = search rules in
    let closed : c.add_all.new.self ≡ c.self.inside.closed ++ sealed_spans c.args.ts old.opened = added ∙ ap (λ l. c.self.inside.closed ++ l) own in
    let none : c.clear.new.self.items ≡ [] = search rules in
    let seen : c.later-self-inside.result ≡ later c.self.inside.latest c.args.ts = c.later-self-inside.ensures ∙ ap (later c.self.inside.latest) ts in
    let before : old ≡ thread_spans es = c.self.view_is ∙ stands in
    rw (none, closed, seen, ts) (ap (λ t. with_seal t c.args.ts) before ∙ sym (thread_spans-sealed es c.args.ts))

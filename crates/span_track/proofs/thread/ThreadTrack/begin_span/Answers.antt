use Rattle.std.proofs.{Common.{rules, ◌≡◌, ℕ, [], ◌∷◌, ◌++◌, false, map, sym, ap, ◌∙◌, subst, w64, to_z, of_z, to_z-of_z}, lemmas.List.map_push}
use Rattle.span_track.specs.{Kept.{begin_of, IsSound}, Nesting.{Begin, later}, Thread.{ThreadSpans, thread_spans, HasRoom, IsNext, goes_back}, declared.thread.OpenSpan.OpenSpan}
use Rattle.span_track.proofs.Threads.{Sound.IsSound-with_begin, Spans.{with_begin, thread_spans-began}}
use Rattle.span_track.proofs.thread.ThreadTrack.begin_span.Goals as goal

pub invariant_of-self-2 : goal.invariant_of-self-2
invariant_of-self-2 c =
    let old : ThreadSpans ℕ = record { opened = map begin_of c.self.inside.opened.items; closed = c.self.inside.closed; last = c.self.inside.last; latest = c.self.inside.latest } in
    let new : OpenSpan = record { name = c.args.name; ts = to_z w64 (of_z w64 c.args.ts); at = c.args.at; args = c.in_ok-args.args } in
    let ts : to_z w64 (of_z w64 c.args.ts) ≡ c.args.ts = to_z-of_z c.ranges.ts in
    let items : c.push_reserved.new.self.items ≡ c.self.inside.opened.items ++ new ∷ [] = cc in
    let opened : map begin_of c.push_reserved.new.self.items ≡ map begin_of c.self.inside.opened.items ++ begin_of new ∷ [] = ap (map begin_of) items ∙ map_push begin_of c.self.inside.opened.items new in
    let room : HasRoom old = subst (λ (t : ThreadSpans ℕ). HasRoom t) (sym c.self.view_is) c.requires.room in
    let next : IsNext c.args.at old = subst (λ (t : ThreadSpans ℕ). IsNext c.args.at t) (sym c.self.view_is) c.requires.next in
    let not_back : goes_back c.args.ts c.self.inside.last ≡ false = search rules in
    let sound : IsSound (with_begin old (record { name = c.args.name; ts = c.args.ts; at = c.args.at; args = c.in_ok-args.args })) =
    IsSound-with_begin old (record { name = c.args.name; ts = c.args.ts; at = c.args.at; args = c.in_ok-args.args }) c.self.invariant room next c.requires.in_time not_back in
    let seen : c.later-self-inside.result ≡ later c.self.inside.latest c.args.ts = c.later-self-inside.ensures ∙ ap (later c.self.inside.latest) ts in
    rw (opened, seen, ts) sound

pub returns-clause-stands : goal.returns-clause-stands
returns-clause-stands c = λ es stands.
    let new : OpenSpan = record { name = c.args.name; ts = to_z w64 (of_z w64 c.args.ts); at = c.args.at; args = c.in_ok-args.args } in
    let ts : to_z w64 (of_z w64 c.args.ts) ≡ c.args.ts = to_z-of_z c.ranges.ts in
    let args : c.in_ok-args.args ≡ c.args.args.now = search rules in
    let items : c.push_reserved.new.self.items ≡ c.self.inside.opened.items ++ new ∷ [] = cc in
    let opened : map begin_of c.push_reserved.new.self.items ≡ map begin_of c.self.inside.opened.items ++ begin_of new ∷ [] = ap (map begin_of) items ∙ map_push begin_of c.self.inside.opened.items new in
    let begin : Begin ℕ = record { name = c.args.name; ts = c.args.ts; at = c.args.at; args = c.args.args.now } in
    let before : record { opened = map begin_of c.self.inside.opened.items; closed = c.self.inside.closed; last = c.self.inside.last; latest = c.self.inside.latest } ≡ thread_spans es = c.self.view_is ∙ stands in
    let seen : c.later-self-inside.result ≡ later c.self.inside.latest c.args.ts = c.later-self-inside.ensures ∙ ap (later c.self.inside.latest) ts in
    rw (opened, seen, ts, args) (ap (λ t. with_begin t begin) before ∙ sym (thread_spans-began es begin))

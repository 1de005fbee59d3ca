use Rattle.std.specs.Option.{option_map}
use Rattle.std.proofs.{Common.{rules, ◌≡◌, ℕ, ◌-◌, false, [], ◌∷◌, ◌++◌, length, take, Some, slice_get, refl, sym, ap, ◌∙◌, subst, w64, to_z, of_z, to_z-of_z, arith}, lemmas.Int.ints}
use Rattle.span_track.specs.{merged, Span, span_of, Kept.begin_of, Nesting.{Begin, later}, Thread.{ThreadSpans, any_name, goes_back}}
use Rattle.span_track.proofs.{Threads.{Closing.{opened-last, sound_with_last, opener_of_last, goes_back-taken, merged_args-open}, Sound.{IsSound-with_end, MayClose, MayClose-sound}, Spans.thread_spans-closing}, thread.ThreadTrack.close_span.Goals.In-Some}
use Rattle.span_track.proofs.thread.ThreadTrack.close_span.Goals as goal

read : (c : In-Some) → Some c.in-Some.last_open.now ≡ slice_get c.self.inside.opened.items (length c.self.inside.opened.items - 1)
read c = search rules

not_back : (c : In-Some) → goes_back c.args.ts c.self.inside.last ≡ false
not_back c = subst (λ (t : ThreadSpans ℕ). goes_back c.args.ts t.last ≡ false) (sym c.self.view_is) (goes_back-taken any_name c.args.self.now c.args.ts c.requires.taken)

may : (c : In-Some) → MayClose (begin_of c.in-Some.last_open.now) c.self.inside.closed c.args.ts
may c = MayClose-sound _ _ _ _ _ c.args.ts (sound_with_last _ _ _ _ _ (read c) c.self.invariant) (not_back c)

pub add-requires-clause-forward : goal.add-requires-clause-forward
add-requires-clause-forward c = let may = may (goal.at.add-requires-clause-forward c).In-Some in rw c.closed_at-span.ensures (omega (arith, ints, may.lasts))

pub add-requires-clause-in_time : goal.add-requires-clause-in_time
add-requires-clause-in_time c = let may = may (goal.at.add-requires-clause-in_time c).In-Some in rw c.closed_at-span.ensures (omega (arith, ints, may.from), omega (arith, ints))

pub add-requires-clause-apart : goal.add-requires-clause-apart
add-requires-clause-apart c = rw c.closed_at-span.ensures (may (goal.at.add-requires-clause-apart c).In-Some).apart

pub invariant_of-self : goal.invariant_of-self
invariant_of-self c =
    let kept : c.add.new.self ≡ c.self.inside.closed = search rules in
    rw kept c.self.invariant

pub invariant_of-self-2 : goal.invariant_of-self-2
invariant_of-self-2 c =
    let at = (goal.at.invariant_of-self-2 c).In-Some in
    let popped : c.pop.new.self.items ≡ take (length c.self.inside.opened.items - 1) c.self.inside.opened.items = search rules in
    let ts : to_z w64 (of_z w64 c.args.ts) ≡ c.args.ts = to_z-of_z c.ranges.ts in
    let same_at : c.closed_at-span.result.at ≡ c.in-Some.last_open.now.at = ap (λ s. s.at) c.closed_at-span.ensures in
    let closed : c.add.new.self ≡ c.self.inside.closed ++ span_of c.closed_at-span.result ∷ [] = search rules in
    let seen : c.later-self-inside.result ≡ later c.self.inside.latest c.args.ts = c.later-self-inside.ensures ∙ ap (later c.self.inside.latest) ts in
    rw (closed, popped, seen, ts) (IsSound-with_end _ _ _ _ _ (span_of c.closed_at-span.result) c.args.ts same_at c.requires.in_time (sound_with_last _ _ _ _ _ (read at) c.self.invariant) (not_back at))

pub returns-clause-stands : goal.returns-clause-stands
returns-clause-stands c = λ args both. λ es stands.
    let at = (goal.at.returns-clause-stands c).In-Some in
    let opened = opened-last c.self.inside.opened.items c.in-Some.last_open.now (read at) in
    let ts : to_z w64 (of_z w64 c.args.ts) ≡ c.args.ts = to_z-of_z c.ranges.ts in
    let popped : c.pop.new.self.items ≡ take (length c.self.inside.opened.items - 1) c.self.inside.opened.items = search rules in
    let begin = begin_of c.in-Some.last_open.now in
    let all : c.args.merged ≡ merged begin.args args = both ∙ merged_args-open c.args.self.now _ begin args (sym (ap (λ (t : ThreadSpans ℕ). t.opened) c.self.view_is) ∙ opened) in
    let span : Span ℕ = record { name = begin.name; start = begin.ts; until = c.args.ts; at = begin.at; args = merged begin.args args } in
    let span_is : span_of c.closed_at-span.result ≡ span = rw (c.closed_at-span.ensures, ts, all) refl in
    let added : c.add.new.self ≡ c.self.inside.closed ++ span_of c.closed_at-span.result ∷ [] = search rules in
    let closed : c.add.new.self ≡ c.self.inside.closed ++ span ∷ [] = added ∙ ap (λ (s : Span ℕ). c.self.inside.closed ++ s ∷ []) span_is in
    let seen : c.later-self-inside.result ≡ later c.self.inside.latest c.args.ts = c.later-self-inside.ensures ∙ ap (later c.self.inside.latest) ts in
    rw (closed, popped, seen, ts) (thread_spans-closing es _ _ c.self.inside.closed c.self.inside.last c.self.inside.latest begin c.args.ts args opened (c.self.view_is ∙ stands))

pub returns-clause-start : goal.returns-clause-start
returns-clause-start c = λ es stands.
    let at = (goal.at.returns-clause-start c).In-Some in
    let may = may at in
    let is_open = sym (ap (λ (t : ThreadSpans ℕ). t.opened) (c.self.view_is ∙ stands)) ∙ opened-last _ _ (read at) in
    let same : to_z w64 (of_z w64 c.in-Some.last_open.now.ts) ≡ c.in-Some.last_open.now.ts = omega (arith, ints, may.from, may.lasts, c.requires.in_time.1) in
    ap (option_map (λ (b : Begin ℕ). b.ts)) (opener_of_last es _ _ is_open) ∙ ap Some (sym same)

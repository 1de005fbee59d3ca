use Rattle.std.proofs.Common.{rules, ◌≡◌, ℕ, ◌-◌, [], ◌∷◌, ◌++◌, length, Some, slice_get, refl, sym, ap, ◌∙◌, subst, w64, to_z, of_z, to_z-of_z}
use Rattle.span_track.specs.{merged, Kept.begin_of, Nesting.ended, Thread.{ThreadSpans, StandsFor, merged_args}}
use Rattle.span_track.proofs.Threads.Closing.{opened-last, opener_of_last, merged_args-open}
use Rattle.span_track.proofs.thread.ThreadTrack.end_span.Goals as goal

pub returns-in-Ok-clause-span : goal.returns-in-Ok-clause-span
returns-in-Ok-clause-span c = λ es stands.
    let ts : to_z w64 (of_z w64 c.args.ts) ≡ c.args.ts = to_z-of_z c.ranges.ts in
    let read : Some c.in-Some-last.begin.now ≡ slice_get c.self.inside.opened.items (length c.self.inside.opened.items - 1) = search rules in
    let opened = opened-last c.self.inside.opened.items c.in-Some-last.begin.now read in
    let opens = opener_of_last es _ _ (sym (ap (λ (t : ThreadSpans ℕ). t.opened) (c.self.view_is ∙ stands)) ∙ opened) in
    let all : c.in_ok-merged.merged ≡ merged_args c.args.self.now c.args.args.now = search rules in
    let both : c.in_ok-merged.merged ≡ merged c.in-Some-last.begin.now.args c.args.args.now = all ∙ merged_args-open c.args.self.now _ (begin_of c.in-Some-last.begin.now) c.args.args.now (sym (ap (λ (t : ThreadSpans ℕ). t.opened) c.self.view_is) ∙ opened) in
    let copied : c.in_ok-copy.copy ≡ c.in_ok-merged.merged = search rules in
    let args : c.in_ok-copy.copy ≡ merged c.in-Some-last.begin.now.args c.args.args.now = copied ∙ both in
    rw (opens, c.closed_at-answer.ensures, ts, args) refl

pub returns-in-Ok-clause-stands : goal.returns-in-Ok-clause-stands
returns-in-Ok-clause-stands c =
    let ts : to_z w64 (of_z w64 c.args.ts) ≡ c.args.ts = to_z-of_z c.ranges.ts in
    let all : c.in_ok-merged.merged ≡ merged_args c.args.self.now c.args.args.now = search rules in
    λ es stands. subst (λ t. StandsFor c.close_span.new.self (es ++ ended t c.args.args.now ∷ [])) ts (c.in-Ok.ensures.stands c.args.args.now all es stands)

use Rattle.std.proofs.Common.{rules, ◌≡◌, ℕ, ◌-◌, Bool, cond, length, Option, Some, None, slice_get, refl, sym, ap, ap₂, ◌∙◌, to_z-of_z}
use Rattle.span_track.specs.Thread.{ThreadSpans, suits, goes_back, end_refusal}
use Rattle.span_track.proofs.{Threads.Closing.end_refusal-last, thread.ThreadTrack.end_refusal.Goals.In-Some}
use Rattle.span_track.proofs.thread.ThreadTrack.end_refusal.Goals as goal

-- the rule of an end, where a span is open
rule : (c : In-Some) → end_refusal (suits c.args.wanted) c.args.self.now c.args.ts
    ≡ cond (goes_back c.args.ts c.args.self.now.last) (Some 22) (cond (suits c.args.wanted c.in-Some.innermost.now.name) None (Some 27))
rule c =
    let read : Some c.in-Some.innermost.now ≡ slice_get c.self.inside.opened.items (length c.self.inside.opened.items - 1) = search rules in
    end_refusal-last (suits c.args.wanted) c.args.self.now c.args.ts c.self.inside.opened.items c.in-Some.innermost.now (sym (ap (λ (t : ThreadSpans ℕ). t.opened) c.self.view_is)) read

-- what the rule gives by its two tests
by : (c : In-Some) (back suited : Bool) → goes_back c.args.ts c.args.self.now.last ≡ back → suits c.args.wanted c.in-Some.innermost.now.name ≡ suited →
    end_refusal (suits c.args.wanted) c.args.self.now c.args.ts ≡ cond {A = Option ℕ} back (Some 22) (cond suited None (Some 27))
by c back suited goes fits = rule c ∙ ap₂ (λ b s. cond {A = Option ℕ} b (Some 22) (cond s None (Some 27))) goes fits

pub returns-then-goes_back : goal.returns-then-goes_back
returns-then-goes_back c =
    let at = (goal.at.returns-then-goes_back c).In-Some in
    let ts = to_z-of_z c.ranges.ts in
    let back = ap (λ t. goes_back t c.args.self.now.last) (sym ts) ∙ sym c.goes_back.ensures ∙ c.if-goes_back.true in
    ap Some c.code-then-goes_back.ensures ∙ sym (by at _ (suits c.args.wanted c.in-Some.innermost.now.name) back refl)

pub returns-then-suits : goal.returns-then-suits
returns-then-suits c =
    let at = (goal.at.returns-then-suits c).In-Some in
    let back = ap (λ t. goes_back t c.args.self.now.last) (sym (to_z-of_z c.ranges.ts)) ∙ sym c.goes_back.ensures ∙ c.if-goes_back.false in
    sym (by at _ _ back (sym c.suits.ensures ∙ c.if-suits.true))

pub returns-else-suits : goal.returns-else-suits
returns-else-suits c =
    let at = (goal.at.returns-else-suits c).In-Some in
    let back = ap (λ t. goes_back t c.args.self.now.last) (sym (to_z-of_z c.ranges.ts)) ∙ sym c.goes_back.ensures ∙ c.if-goes_back.false in
    ap Some c.code-else-suits.ensures ∙ sym (by at _ _ back (sym c.suits.ensures ∙ c.if-suits.false))

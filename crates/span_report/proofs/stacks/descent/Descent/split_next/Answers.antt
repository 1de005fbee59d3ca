use Rattle.std.specs.List.{AllByRecursion}
use Rattle.std.proofs.{Common.{Bor, ◌≡◌, ℕ, Bool, true, false, ◌+◌, ◌≤◌, ◌∷◌, [], ◌++◌, List, cond, length, arith, refl, sym, ap, subst, ◌∙◌, append_assoc, append-nil}, lemmas.{Int.ints, List.{length_push, length-map}}}
use Rattle.span_report.specs.{Bytes, Span, Stacks.{Descent.{IsNextSplit, last_visited, left_of}, Pending.{IsSound, IsSplit, left, pending_stack}, Ticks.{Stack, same_stack}}, declared.stacks.pending.PendingFrame.PendingFrame}
use Rattle.span_report.proofs.{StackLemmas.{Nearing.{AllByRecursion-front, AllByRecursion-last}, Splitting.{counts-popped, own-small}}, stacks.descent.Descent.split_next.Goals.In_ok-time}
use Rattle.span_report.proofs.stacks.descent.Descent.split_next.Goals as goal

pub loop-frame-init : goal.loop-frame-init
loop-frame-init c =
    let old = c.args.self.now in
    let base = pending_stack (last_visited old) c.args.first.now in
    let none = c.requires.ready.none in
    record {
      spans = refl;
      stack = refl;
      popped = ([], sym (append-nil old.pending.items));
      counts = λ stack. subst (λ (l : List PendingFrame). left old.spans (last_visited old) old.pending.items stack + (left old.spans base l stack + cond (same_stack stack base) 0 0) ≡ left_of old stack) (sym none) (nothing (same_stack stack base) (left_of old stack));
      found = subst (AllByRecursion (λ (p : PendingFrame). (p.below ≡ c.args.first.now.below + 1) × IsSound old.spans p.over)) (sym none) tt;
    }
  where
    nothing : (b : Bool) (n : ℕ) → n + (0 + cond b 0 0) ≡ n
    nothing true n = omega arith
    nothing false n = omega arith

-- a frame that was taken off was one of those at the start
popped-holds : (P : PendingFrame → Type 0) (all now rest frames : List PendingFrame) (frame : PendingFrame) → all ≡ now ++ frames → now ≡ rest ++ frame ∷ [] → AllByRecursion P all → P frame
popped-holds P all now rest frames frame whole off each =
    AllByRecursion-last P rest frame (AllByRecursion-front P (rest ++ frame ∷ []) frames (subst (AllByRecursion P) (whole ∙ ap (λ (l : List PendingFrame). l ++ frames) off) each))

pub split-requires-clause-from : goal.split-requires-clause-from
split-requires-clause-from c =
    (popped-holds (λ (p : PendingFrame). IsSound c.args.self.now.spans p.over) c.args.self.now.pending.items c.loop-frame.self.pending.items c.pop_like.new.self.pending.items c.loop-frame.invariant.popped.0 c.in-Some.frame c.loop-frame.invariant.popped.1 c.in-Some.ensures.pending c.requires.ready.sound).from

pub split-requires-clause-forward : goal.split-requires-clause-forward
split-requires-clause-forward c =
    let lasts = (popped-holds (λ (p : PendingFrame). IsSound c.args.self.now.spans p.over) c.args.self.now.pending.items c.loop-frame.self.pending.items c.pop_like.new.self.pending.items c.loop-frame.invariant.popped.0 c.in-Some.frame c.loop-frame.invariant.popped.1 c.in-Some.ensures.pending c.requires.ready.sound).lasts in
    omega (arith, ints, lasts)

pub split-requires-clause-until : goal.split-requires-clause-until
split-requires-clause-until c =
    (popped-holds (λ (p : PendingFrame). IsSound c.args.self.now.spans p.over) c.args.self.now.pending.items c.loop-frame.self.pending.items c.pop_like.new.self.pending.items c.loop-frame.invariant.popped.0 c.in-Some.frame c.loop-frame.invariant.popped.1 c.in-Some.ensures.pending c.requires.ready.sound).until

pub split-requires-clause-next : goal.split-requires-clause-next
split-requires-clause-next c =
    let within = (popped-holds (λ (p : PendingFrame). IsSound c.args.self.now.spans p.over) c.args.self.now.pending.items c.loop-frame.self.pending.items c.pop_like.new.self.pending.items c.loop-frame.invariant.popped.0 c.in-Some.frame c.loop-frame.invariant.popped.1 c.in-Some.ensures.pending c.requires.ready.sound).within in
    subst (λ (l : List (Span Bytes)). c.in-Some.frame.over.next ≤ length l) (sym (c.in-Some.ensures.spans ∙ c.loop-frame.invariant.spans)) within

-- the frame that was taken off is split among those that were found
split : (c : In_ok-time) → IsSplit c.args.self.now.spans (c.args.first.now.below + 1) c.in-Some.frame.over c.in_ok-time.field-0 c.loop-frame.self.found.items c.split.new.found.items
split c =
    subst (λ (l : List PendingFrame). IsSplit c.args.self.now.spans (c.args.first.now.below + 1) c.in-Some.frame.over c.in_ok-time.field-0 l c.split.new.found.items) c.in-Some.ensures.found
    (subst (λ (l : List (Span Bytes)). IsSplit l (c.args.first.now.below + 1) c.in-Some.frame.over c.in_ok-time.field-0 c.pop_like.new.self.found.items c.split.new.found.items) (c.in-Some.ensures.spans ∙ c.loop-frame.invariant.spans) c.in_ok-time.ensures)

-- what the frames that were taken off had, once one more is split
counted : (c : In_ok-time) (stack : Stack) →
    left c.args.self.now.spans (last_visited c.args.self.now) c.pop_like.new.self.pending.items stack
    + (left c.args.self.now.spans (pending_stack (last_visited c.args.self.now) c.args.first.now) c.split.new.found.items stack + cond (same_stack stack (pending_stack (last_visited c.args.self.now) c.args.first.now)) (c.loop-frame.time + c.in_ok-time.field-0) 0)
    ≡ left_of c.args.self.now stack
counted c stack =
    let old = c.args.self.now in
    let first = c.args.first.now in
    let last = last_visited old in
    let base = pending_stack last first in
    let off = c.in-Some.ensures in
    let before = c.loop-frame.invariant in
    let within : first.below ≤ length last = omega (arith, c.requires.below, length-map old.stack.items (λ (name : Bor Bytes). name.now)) in
    counts-popped old.spans last stack first c.in-Some.frame c.pop_like.new.self.pending.items c.loop-frame.self.found.items c.split.new.found.items c.loop-frame.time c.in_ok-time.field-0 (left_of old stack) off.below off.name within (split c)
    (subst (λ (l : List PendingFrame). left old.spans last l stack + (left old.spans base c.loop-frame.self.found.items stack + cond (same_stack stack base) c.loop-frame.time 0) ≡ left_of old stack) off.pending (before.counts stack))

pub overflow_add-time : goal.overflow_add-time
overflow_add-time c =
    let old = c.args.self.now in
    let base = pending_stack (last_visited old) c.args.first.now in
    omega (arith, own-small base _ _ _ (left_of old base) (counted (goal.at.overflow_add-time c).In_ok-time base) (c.requires.ready.small base))

pub loop-frame-smaller : goal.loop-frame-smaller
loop-frame-smaller c = omega (arith, ap (λ (l : List PendingFrame). length l) c.in-Some.ensures.pending, length_push c.pop_like.new.self.pending.items c.in-Some.frame)

pub loop-frame-preserved : goal.loop-frame-preserved
loop-frame-preserved c =
    let at = (goal.at.loop-frame-preserved c).In_ok-time in
    let frame = c.in-Some.frame in
    let off = c.in-Some.ensures in
    let before = c.loop-frame.invariant in
    record {
      spans = off.spans ∙ before.spans;
      stack = off.stack ∙ before.stack;
      popped = (frame ∷ before.popped.0, before.popped.1 ∙ ap (λ (l : List PendingFrame). l ++ before.popped.0) off.pending ∙ append_assoc c.pop_like.new.self.pending.items (frame ∷ []) before.popped.0);
      counts = counted at;
      found = (split at).sound before.found;
    }

pub returns : goal.returns
returns c =
    let before = c.loop-frame.invariant in
    subst (IsNextSplit c.args.first.now c.loop-frame.time c.args.self.now) (sym c.in_default.ensures.0) (record {
      spans = before.spans;
      stack = before.stack;
      popped = before.popped;
      done = c.in_default.ensures.1;
      counts = before.counts;
      found = before.found;
    })

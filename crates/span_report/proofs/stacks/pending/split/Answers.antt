use Rattle.std.specs.List.{AllByRecursion}
use Rattle.std.proofs.{Common.{◌≡◌, ◌+◌, ◌∷◌, [], ◌++◌, List, cond, arith, rules, refl, sym, subst, ◌∙◌, to_z, of_z, w64}, lemmas.Int.ints}
use Rattle.span_self_time.proofs.Counts.{add-distance, distance-add}
use Rattle.span_journal.proofs.Sorted.{AllByRecursion-append}
use Rattle.span_report.specs.{distance, Stacks.{Pending.{IsSound, left, times_on}, Ticks.same_stack}, declared.stacks.pending.PendingFrame.PendingFrame}
use Rattle.span_report.proofs.StackLemmas.Splitting.{counts-bare, counts-push, rest_of}
use Rattle.span_report.proofs.stacks.pending.split.Goals as goal

pub overflow_add-time : goal.overflow_add-time
overflow_add-time c =
    let rest = c.loop-frame.rest in
    let frame = c.in-Some.frame in
    let whole = c.args.whole.now in
    let first = c.in-Some.ensures.first in
    let from : to_z w64 (of_z w64 frame.over.from) ≡ frame.over.from = search rules in
    let start : to_z w64 (of_z w64 rest.from) ≡ rest.from = search rules in
    let time : c.distance-time.result ≡ distance rest.from frame.over.from = rw (from, start) at c.distance-time.ensures in
    let all = distance-add rest.from frame.over.from rest.until first.from (omega (arith, ints, first.lasts, first.until)) in
    omega (arith, ints, c.loop-frame.invariant.small, time, all, add-distance whole.from whole.until c.requires.forward, c.requires.from, c.requires.until)

pub loop-frame-preserved : goal.loop-frame-preserved
loop-frame-preserved c =
    let spans = c.args.spans.now in
    let whole = c.args.whole.now in
    let rest = c.loop-frame.rest in
    let frame = c.in-Some.frame in
    let first = c.in-Some.ensures.first in
    let before = c.loop-frame.invariant in
    let P = λ (p : PendingFrame). (p.below ≡ c.args.below) × IsSound spans p.over in
    let from : to_z w64 (of_z w64 frame.over.from) ≡ frame.over.from = search rules in
    let until : to_z w64 (of_z w64 frame.over.until) ≡ frame.over.until = search rules in
    let start : to_z w64 (of_z w64 rest.from) ≡ rest.from = search rules in
    let time : c.distance-time.result ≡ distance rest.from frame.over.from = rw (from, start) at c.distance-time.ensures in
    let pushed = c.in_ok-push.ensures.items in
    let all = distance-add rest.from frame.over.from rest.until first.from (omega (arith, ints, first.lasts, first.until)) in
    let behind = distance-add frame.over.from frame.over.until rest.until (omega (arith, ints, first.lasts)) first.until in
    rw until (record {
      from = omega (arith, ints, before.from, first.from, first.lasts);
      forward = first.until;
      until = before.until;
      within = first.within;
      small = omega (arith, before.small, time, all, behind);
      counts = λ base deep stack.
          subst (λ (l : List PendingFrame). left spans base l stack + (cond (same_stack stack base) (c.loop-frame.time + c.distance-time.result) 0 + times_on spans base (rest_of rest frame.over.until frame.over.next) stack) ≡ left spans base c.args.found.now.items stack + times_on spans base whole stack) (sym pushed)
          (subst (λ n. left spans base (c.loop-frame.found.items ++ frame ∷ []) stack + (cond (same_stack stack base) (c.loop-frame.time + n) 0 + times_on spans base (rest_of rest frame.over.until frame.over.next) stack) ≡ left spans base c.args.found.now.items stack + times_on spans base whole stack) (sym time)
          (counts-push spans base stack c.loop-frame.found.items c.loop-frame.time (left spans base c.args.found.now.items stack + times_on spans base whole stack) rest frame (deep ∙ sym c.in-Some.ensures.below) first (before.counts base deep stack)));
      sound = λ old. subst (AllByRecursion P) (sym pushed) (AllByRecursion-append P c.loop-frame.found.items (frame ∷ []) (before.sound old) (
        (
          c.in-Some.ensures.below,
          record {
            from = omega (arith, ints, c.requires.from, before.from, first.from);
            lasts = first.lasts;
            until = omega (arith, ints, c.requires.until, before.until, first.until);
            within = first.within;
          },
        ),
        tt,
      ));
    })

pub returns : goal.returns
returns c =
    let spans = c.args.spans.now in
    let whole = c.args.whole.now in
    let rest = c.loop-frame.rest in
    let before = c.loop-frame.invariant in
    let from : to_z w64 (of_z w64 rest.from) ≡ rest.from = search rules in
    let until : to_z w64 (of_z w64 rest.until) ≡ rest.until = search rules in
    let time : c.distance.result ≡ distance rest.from rest.until = rw (from, until) at c.distance.ensures in
    let bare = c.in_default.ensures.bare refl in
    record {
      counts = λ base deep stack. subst (λ n. left spans base c.loop-frame.found.items stack + cond (same_stack stack base) (c.loop-frame.time + n) 0 ≡ left spans base c.args.found.now.items stack + times_on spans base whole stack) (sym time)
          (counts-bare spans base stack c.loop-frame.found.items c.loop-frame.time (left spans base c.args.found.now.items stack + times_on spans base whole stack) rest before.forward bare (before.counts base deep stack));
      sound = before.sound;
    }

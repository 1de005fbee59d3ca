use Rattle.std.proofs.{Common.{rules, ◌≡◌, None, Some, reverse, w64, to_z, of_z, sym, ◌∙◌, subst, arith}, lemmas.Int.ints}
use Rattle.span_self_time.specs.Division.{Owners, owner_of, taken, taken_to, OwnTimes.{AreTimes, IsReplaced}, SegmentStacks.IsTaking}
use Rattle.span_self_time.proofs.{Owners.{taken-after, taken_to-on, taken_to-until}, SegmentStacks.{Cursor.{StartsFrom, StartsFrom-starts_before}, Taking.{AreOwnedSegments-taken, AreOwnedSegments-filled, Belong-gap, IsReplaced-gap, IsOnly-taken}}, division.segment_stacks.SegmentStacks.finish.Goals.Then-time-span}
use Rattle.span_self_time.proofs.division.segment_stacks.SegmentStacks.finish.Goals as goal

starts : (c : Then-time-span) → StartsFrom c.args.span.now.span_until (reverse c.args.self.now.future.items)
starts c = StartsFrom-starts_before c.args.span.now.span_until (reverse c.args.self.now.future.items) c.requires.taken.holds.taken.in_time.1 c.requires.gap

-- the span takes the gap
change : (c : Then-time-span) (owners : Owners) → IsTaking (owner_of c.args.span.now) c.args.time c.args.self.now owners
    → IsReplaced (taken_to (owner_of c.args.span.now) c.args.time owners) (taken_to (owner_of c.args.span.now) c.args.span.now.span_until owners) c.args.time c.args.span.now.span_until None (Some (owner_of c.args.span.now))
change c owners is = IsReplaced-gap _ _ _ _ _ owners is.taken (starts c) (omega (arith, ints, c.if-time-span.true)) (omega (arith, ints))

pub charge-requires-clause-change : goal.charge-requires-clause-change
charge-requires-clause-change c =
    let is = c.requires.taken.holds in
    let time : to_z w64 (of_z w64 c.args.time) ≡ c.args.time = search rules in
    let until : to_z w64 (of_z w64 c.args.span.now.span_until) ≡ c.args.span.now.span_until = search rules in
    rw (time, until) (record { old = _; new = _; are = is.times; change = change (goal.at.charge-requires-clause-change c).Then-time-span c.requires.taken.owners is })

pub returns-then-time-span : goal.returns-then-time-span
returns-then-time-span c = λ owners is.
    let span = owner_of c.args.span.now in
    let until = c.args.span.now.span_until in
    let time : to_z w64 (of_z w64 c.args.time) ≡ c.args.time = search rules in
    let ends : to_z w64 (of_z w64 until) ≡ until = search rules in
    let at = (goal.at.returns-then-time-span c).Then-time-span in
    let charged = rw (time, ends) at c.charge.ensures.times in
    let pushed = rw (time, ends) at c.push_own.ensures.past in
    let past = pushed (taken span owners) (IsOnly-taken _ _ is.taken.new) (Belong-gap _ _ until _ _ owners is.taken (starts at) (omega (arith, ints))) is.taken.before in
    record {
      segments = AreOwnedSegments-filled span c.args.time _ c.push_own.new.past.items _ owners is.taken (omega (arith, ints, c.if-time-span.true)) (starts at) past;
      times = subst (λ (o : Owners). AreTimes o c.charge.new.self) (taken_to-until span owners) (charged _ _ is.times (change at owners is));
    }

pub returns-else-time-span : goal.returns-else-time-span
returns-else-time-span c = λ owners is.
    let span = owner_of c.args.span.now in
    let all = sym (taken_to-on span span.until c.args.time owners (omega (arith, ints, c.if-time-span.false)) (λ u from before. taken-after span owners u from)) ∙ taken_to-until span owners in
    record {
      segments = AreOwnedSegments-taken span c.args.time _ _ owners is.taken (omega (arith, ints, c.if-time-span.false));
      times = subst (λ (o : Owners). AreTimes o c.args.self.now.times) all is.times;
    }

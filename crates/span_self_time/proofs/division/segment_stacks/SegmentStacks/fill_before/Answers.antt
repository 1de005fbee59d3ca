use Rattle.std.proofs.{Common.{rules, ◌≡◌, ◌<ℤ◌, None, Some, w64, to_z, of_z, subst, arith}, lemmas.Int.ints}
use Rattle.span_self_time.specs.Division.{Owners, owner_of, taken, taken_to, OwnTimes.{AreTimes, IsReplaced}, SegmentStacks.IsAhead}
use Rattle.span_self_time.proofs.{SegmentStacks.Taking.{Belong-gap, IsReplaced-gap, StartsFrom-last, IsNextSegment-filled, IsNextSegment-at, IsOnly-taken, before-last, piece-none}, division.segment_stacks.SegmentStacks.fill_before.Goals.Then-time-owned}
use Rattle.span_self_time.proofs.division.segment_stacks.SegmentStacks.fill_before.Goals as goal

-- the span takes the gap
change : (c : Then-time-owned) (owners : Owners) → IsAhead (owner_of c.args.span.now) c.args.time c.args.owned.now c.args.self.now owners
    → IsReplaced (taken_to (owner_of c.args.span.now) c.args.time owners) (taken_to (owner_of c.args.span.now) c.args.owned.now.segment.start owners) c.args.time c.args.owned.now.segment.start None (Some (owner_of c.args.span.now))
change c owners is =
    let within : c.args.owned.now.segment.start <ℤ c.args.span.now.span_until = c.requires.within in
    IsReplaced-gap _ _ _ _ _ owners is.taken (StartsFrom-last c.args.owned.now c.args.self.now.future.items) (omega (arith, ints, c.if-time-owned.true)) (omega (arith, ints, within))

pub charge-requires-clause-change : goal.charge-requires-clause-change
charge-requires-clause-change c =
    let is = c.requires.ahead.holds in
    let time : to_z w64 (of_z w64 c.args.time) ≡ c.args.time = search rules in
    let start : to_z w64 (of_z w64 c.args.owned.now.segment.start) ≡ c.args.owned.now.segment.start = search rules in
    rw (time, start) (record { old = _; new = _; are = is.times; change = change (goal.at.charge-requires-clause-change c).Then-time-owned c.requires.ahead.owners is })

pub returns-then-time-owned : goal.returns-then-time-owned
returns-then-time-owned c = λ owners is.
    let span = owner_of c.args.span.now in
    let owned = c.args.owned.now in
    let time : to_z w64 (of_z w64 c.args.time) ≡ c.args.time = search rules in
    let start : to_z w64 (of_z w64 owned.segment.start) ≡ owned.segment.start = search rules in
    let within : owned.segment.start <ℤ c.args.span.now.span_until = c.requires.within in
    let charged = rw (time, start) at c.charge.ensures.times in
    let pushed = rw (time, start) at c.push_own.ensures.past in
    let none = piece-none owned owned.segment.start owned.segment.start (omega (arith, ints)) in
    let gap = Belong-gap span c.args.time owned.segment.start _ _ owners is.taken (StartsFrom-last owned c.args.self.now.future.items) (omega (arith, ints, within)) in
    record {
      next = IsNextSegment-filled span c.args.time owned c.args.self.now.past.items c.push_own.new.past.items c.args.self.now.future.items owners is.taken (omega (arith, ints, c.if-time-owned.true)) within (pushed (taken span owners) (IsOnly-taken _ _ is.taken.new) gap is.taken.before);
      times = charged _ _ is.times (change (goal.at.returns-then-time-owned c).Then-time-owned owners is);
      kept = c.charge.ensures.kept c.args.span.now.segment.name is.kept;
      room = omega (arith, is.room, none, c.push_own.ensures.len, c.push_own.ensures.capacity);
      room_behind = is.room_behind;
    }

pub returns-else-time-owned : goal.returns-else-time-owned
returns-else-time-owned c = λ owners is.
    let owned = c.args.owned.now in
    let none = piece-none owned owned.segment.start owned.segment.start (omega (arith, ints)) in
    let here : c.args.time ≡ owned.segment.start = omega (arith, ints, c.if-time-owned.false, before-last _ _ _ _ _ owners is.taken) in
    record {
      next = IsNextSegment-at (owner_of c.args.span.now) c.args.time owned c.args.self.now.past.items c.args.self.now.future.items owners is.taken (omega (arith, ints, c.if-time-owned.false)) c.requires.within;
      times = subst (λ u. AreTimes (taken_to (owner_of c.args.span.now) u owners) c.args.self.now.times) here is.times;
      kept = is.kept;
      room = omega (arith, is.room, none);
      room_behind = is.room_behind;
    }

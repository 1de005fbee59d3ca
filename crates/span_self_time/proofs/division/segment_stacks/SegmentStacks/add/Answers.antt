use Rattle.std.proofs.{Common.{rules, ◌≡◌, ◌≤ℤ◌, w64, to_z, of_z, sym, ◌∙◌, subst, arith, List}, lemmas.Int.ints}
use Rattle.span_self_time.specs.{Division.{Owners, owner_of, IsNew, AreOwnedSegments, OwnTimes.AreTimes, SegmentStacks.{AreSegmentStacks, IsAtStart, IsEntering}}, declared.{division.segment_stacks.SegmentStacks.SegmentStacks, segment.OwnedSegment.OwnedSegment}}
use Rattle.span_self_time.proofs.{Owners.taken-empty, TimeMap.Searching.on_err, division.segment_stacks.SegmentStacks.add.Goals.{In_ok-advance, In_ok-keep}}
use Rattle.span_self_time.proofs.division.segment_stacks.SegmentStacks.add.Goals as goal

pub returns-then-span-clause-ok : goal.returns-then-span-clause-ok
returns-then-span-clause-ok c = λ owners is new settled.
    subst (λ (o : Owners). AreSegmentStacks o c.args.self.now) (taken-empty (owner_of c.args.span.now) owners (omega (arith, ints, c.if-span.true))) is

-- the cursor has moved to the start of the span
at_start : (c : In_ok-advance) (owners : Owners) → AreSegmentStacks owners c.args.self.now → IsNew (owner_of c.args.span.now) owners → IsAtStart (owner_of c.args.span.now) c.advance.new.self.past.items c.advance.new.self.future.items owners
at_start c owners is new =
    let start : to_z w64 (of_z w64 c.args.span.now.span_start) ≡ c.args.span.now.span_start = search rules in
    let forward : c.args.span.now.span_start ≤ℤ c.args.span.now.span_until = c.requires.forward in
    record {
      new = new;
      in_time = c.requires.in_time;
      lasts = omega (arith, ints, c.if-span.false, forward);
      ends = rw start at (c.in_ok-advance.ensures.past c.in_ok-rewind.ensures.past);
      beyond = rw start at c.in_ok-advance.ensures.future;
      segments = subst (λ (l : List OwnedSegment). AreOwnedSegments owners l) (sym (c.in_ok-advance.ensures.moved.segments ∙ c.in_ok-rewind.ensures.moved.segments)) is.segments;
    }

pub returns-in_err-keep-clause-err : goal.returns-in_err-keep-clause-err
returns-in_err-keep-clause-err c =
    let segments = c.in_ok-advance.ensures.moved.segments ∙ c.in_ok-rewind.ensures.moved.segments in
    let times = c.in_ok-advance.ensures.moved.times ∙ c.in_ok-rewind.ensures.moved.times in
    on_err c.from_residual-in_err-keep.result (λ owners is. record {
      segments = rw (c.reserve.ensures.items, segments) is.segments;
      times = c.keep.ensures.same owners (subst (AreTimes owners) (sym times) is.times);
    })

-- the stacks that the span enters
abbrev ready : In_ok-keep → SegmentStacks
ready c = record { past = c.reserve.new.self; future = c.advance.new.self.future; times = c.keep.new.self }

entering : (c : In_ok-keep) (owners : Owners) → AreSegmentStacks owners c.args.self.now
    → IsAtStart (owner_of c.args.span.now) c.advance.new.self.past.items c.advance.new.self.future.items owners
    → IsEntering (owner_of c.args.span.now) (ready c) owners
entering c owners is start =
    let past = c.in_ok-reserve.ensures.items in
    let times = c.in_ok-advance.ensures.moved.times ∙ c.in_ok-rewind.ensures.moved.times in
    record {
      start = rw past start;
      times = c.keep.ensures.same owners (subst (AreTimes owners) (sym times) is.times);
      kept = c.in_ok-keep.ensures.kept;
      room = omega (arith, c.in_ok-reserve.ensures.ok, c.in_ok-reserve.ensures.len, c.len.ensures);
    }

pub enter-entered-requires : goal.enter-entered-requires
enter-entered-requires c =
    let at = goal.at.enter-entered-requires c in
    let is = c.requires.is in
    record { owners = is.owners; holds = entering at.In_ok-keep is.owners is.holds.0 (at_start at.In_ok-advance is.owners is.holds.0 is.holds.1) }

pub go_through-time-requires : goal.go_through-time-requires
go_through-time-requires c =
    let entered : to_z w64 (of_z w64 c.enter-entered.result) ≡ c.enter-entered.result = search rules in
    let at = goal.at.go_through-time-requires c in
    let is = c.requires.is in
    let entering = entering at.In_ok-keep is.owners is.holds.0 (at_start at.In_ok-advance is.owners is.holds.0 is.holds.1) in
    rw entered (record { owners = is.owners; holds = c.enter-entered.ensures is.owners entering })

pub finish-requires-clause-taken : goal.finish-requires-clause-taken
finish-requires-clause-taken c =
    let entered : to_z w64 (of_z w64 c.enter-entered.result) ≡ c.enter-entered.result = search rules in
    let time : to_z w64 (of_z w64 c.go_through-time.result) ≡ c.go_through-time.result = search rules in
    let at = goal.at.finish-requires-clause-taken c in
    let is = c.requires.is in
    let entering = entering at.In_ok-keep is.owners is.holds.0 (at_start at.In_ok-advance is.owners is.holds.0 is.holds.1) in
    rw time (record { owners = is.owners; holds = c.go_through-time.ensures.taken is.owners (rw entered (c.enter-entered.ensures is.owners entering)) })

pub returns-clause-ok : goal.returns-clause-ok
returns-clause-ok c = λ owners is new settled.
    let entered : to_z w64 (of_z w64 c.enter-entered.result) ≡ c.enter-entered.result = search rules in
    let time : to_z w64 (of_z w64 c.go_through-time.result) ≡ c.go_through-time.result = search rules in
    let at = goal.at.returns-clause-ok c in
    let entering = entering at.In_ok-keep owners is (at_start at.In_ok-advance owners is new) in
    c.finish.ensures owners (rw time (c.go_through-time.ensures.taken owners (rw entered (c.enter-entered.ensures owners entering))))

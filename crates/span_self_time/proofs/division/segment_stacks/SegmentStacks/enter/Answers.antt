use Rattle.std.proofs.{Common.{rules, ◌≡◌, true, false, int_lt, reverse, w64, to_z, of_z, sym, ◌∙◌, subst, arith}, lemmas.Int.ints}
use Rattle.span_self_time.specs.{Division.{Owners, owner_of, OwnTimes.AreTimes, SegmentStacks.{starts_before, IsEntering, IsPassing}}, declared.division.segment_stacks.SegmentStacks.SegmentStacks}
use Rattle.span_self_time.proofs.{Owners.taken_to-start, SegmentStacks.{Cursor.StartsFrom-starts_before, Taking.{IsPassing-entering, IsTakenTo-start, starts_before-last}}, division.segment_stacks.SegmentStacks.enter.Goals.In-Some}
use Rattle.span_self_time.proofs.division.segment_stacks.SegmentStacks.enter.Goals as goal

pub returns-then-not-starts_before : goal.returns-then-not-starts_before
returns-then-not-starts_before c = λ owners is.
    let start : to_z w64 (of_z w64 c.args.span.now.span_start) ≡ c.args.span.now.span_start = search rules in
    let none : starts_before c.args.span.now.span_start (reverse c.args.self.now.future.items) ≡ false = search rules in
    let gap = StartsFrom-starts_before c.args.span.now.span_start (reverse c.args.self.now.future.items) (omega (arith, ints, is.start.lasts, is.start.in_time)) none in
    rw start (record { taken = IsTakenTo-start _ _ _ owners is.start gap; times = subst (λ (o : Owners). AreTimes o c.args.self.now.times) (taken_to-start (owner_of c.args.span.now) owners) is.times; kept = is.kept; room = λ before. omega (arith, is.room) })

-- the stacks without the segment that the span starts in
abbrev rest : In-Some → SegmentStacks
rest c = record { past = c.args.self.now.past; future = c.pop.new.self; times = c.args.self.now.times }

passing : (c : In-Some) (owners : Owners) → IsEntering (owner_of c.args.span.now) c.args.self.now owners → IsPassing (owner_of c.args.span.now) c.args.span.now.span_start c.in-Some.owned (rest c) owners
passing c owners is =
    let some : starts_before c.args.span.now.span_start (reverse c.args.self.now.future.items) ≡ true = search rules in
    let first : int_lt c.in-Some.owned.segment.start c.args.span.now.span_start ≡ true = sym (starts_before-last c.args.span.now.span_start c.pop.new.self.items c.in-Some.owned c.args.self.now.future.items c.in-Some.ensures.items) ∙ some in
    IsPassing-entering (owner_of c.args.span.now) c.in-Some.owned c.args.self.now c.pop.new.self owners is c.in-Some.ensures.items (omega (arith, c.in-Some.ensures.len)) (omega (arith, c.in-Some.ensures.len, c.in-Some.ensures.capacity)) (omega (arith, ints, first))

pub pass-requires : goal.pass-requires
pass-requires c =
    let start : to_z w64 (of_z w64 c.args.span.now.span_start) ≡ c.args.span.now.span_start = search rules in
    let at = (goal.at.pass-requires c).In-Some in
    rw start (record { owners = c.requires.owners; holds = passing at c.requires.owners c.requires.holds })

pub returns : goal.returns
returns c = λ owners is.
    let start : to_z w64 (of_z w64 c.args.span.now.span_start) ≡ c.args.span.now.span_start = search rules in
    let result : to_z w64 (of_z w64 c.pass.result) ≡ c.pass.result = search rules in
    let at = (goal.at.returns c).In-Some in
    rw result (c.pass.ensures.taken owners (rw start (passing at owners is)))

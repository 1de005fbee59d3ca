use Rattle.std.proofs.{Common.{rules, ◌≡◌, ◌<ℤ◌, true, int_lt, w64, to_z, of_z, sym, ◌∙◌, arith}, lemmas.Int.ints}
use Rattle.span_self_time.specs.{Division.{Owners, owner_of, SegmentStacks.{IsTaking, IsAhead}}, declared.division.segment_stacks.SegmentStacks.SegmentStacks}
use Rattle.span_self_time.proofs.{SegmentStacks.Taking.{IsAhead-taking, before-last, starts_before-last}, division.segment_stacks.SegmentStacks.go_on.Goals.In-Some}
use Rattle.span_self_time.proofs.division.segment_stacks.SegmentStacks.go_on.Goals as goal

-- the stacks without the segment that comes next
abbrev rest : In-Some → SegmentStacks
rest c = record { past = c.args.self.now.past; future = c.pop.new.self; times = c.args.self.now.times }

within : (c : In-Some) → c.in-Some.owned.segment.start <ℤ c.args.span.now.span_until
within c =
    let first : int_lt c.in-Some.owned.segment.start c.args.span.now.span_until ≡ true = sym (starts_before-last c.args.span.now.span_until c.pop.new.self.items c.in-Some.owned c.args.self.now.future.items c.in-Some.ensures.items) ∙ c.requires.next in
    omega (arith, ints, first)

ahead : (c : In-Some) (owners : Owners) → IsTaking (owner_of c.args.span.now) c.args.time c.args.self.now owners → IsAhead (owner_of c.args.span.now) c.args.time c.in-Some.owned (rest c) owners
ahead c owners is =
    IsAhead-taking (owner_of c.args.span.now) c.args.time c.in-Some.owned c.args.self.now c.pop.new.self owners is c.in-Some.ensures.items (omega (arith, c.in-Some.ensures.len)) (omega (arith, c.in-Some.ensures.len, c.in-Some.ensures.capacity)) (within c)

pub fill_before-requires-clause-ahead : goal.fill_before-requires-clause-ahead
fill_before-requires-clause-ahead c =
    let time : to_z w64 (of_z w64 c.args.time) ≡ c.args.time = search rules in
    let at = (goal.at.fill_before-requires-clause-ahead c).In-Some in
    rw time (record { owners = c.requires.taken.owners; holds = ahead at c.requires.taken.owners c.requires.taken.holds })

pub pass-requires : goal.pass-requires
pass-requires c =
    let start : to_z w64 (of_z w64 c.in-Some.owned.segment.start) ≡ c.in-Some.owned.segment.start = search rules in
    let time : to_z w64 (of_z w64 c.args.time) ≡ c.args.time = search rules in
    let at = (goal.at.pass-requires c).In-Some in
    rw start (record { owners = c.requires.taken.owners; holds = c.fill_before.ensures c.requires.taken.owners (rw time (ahead at c.requires.taken.owners c.requires.taken.holds)) })

pub returns-clause-taken : goal.returns-clause-taken
returns-clause-taken c = λ owners is.
    let start : to_z w64 (of_z w64 c.in-Some.owned.segment.start) ≡ c.in-Some.owned.segment.start = search rules in
    let time : to_z w64 (of_z w64 c.args.time) ≡ c.args.time = search rules in
    let result : to_z w64 (of_z w64 c.pass.result) ≡ c.pass.result = search rules in
    let at = (goal.at.returns-clause-taken c).In-Some in
    rw result (c.pass.ensures.taken owners (rw start (c.fill_before.ensures owners (rw time (ahead at owners is)))))

pub returns-clause-on : goal.returns-clause-on
returns-clause-on c =
    let start : to_z w64 (of_z w64 c.in-Some.owned.segment.start) ≡ c.in-Some.owned.segment.start = search rules in
    let result : to_z w64 (of_z w64 c.pass.result) ≡ c.pass.result = search rules in
    let at = (goal.at.returns-clause-on c).In-Some in
    let gap = before-last _ _ _ _ _ _ (ahead at c.requires.taken.owners c.requires.taken.holds).taken in
    let on : c.in-Some.owned.segment.start <ℤ c.pass.result = rw start at c.pass.ensures.on in
    rw result (omega (arith, ints, gap, on))

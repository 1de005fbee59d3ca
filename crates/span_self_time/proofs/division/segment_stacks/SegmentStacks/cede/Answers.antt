use Rattle.std.specs.Int.{int_min}
use Rattle.std.proofs.{Common.{rules, ◌≡◌, ◌++◌, w64, to_z, of_z, arith}, lemmas.Int.ints}
use Rattle.span_self_time.specs.Division.{owner_of, taken, SegmentStacks.piece}
use Rattle.span_self_time.proofs.{SegmentStacks.Taking.{IsTakenUpTo, IsTakenTo-ceded, IsOnly-taken, IsReplaced-ceded, IsTakenUpTo-next, piece-none, ArePast-ceded, Belong-ceded}, division.segment_stacks.SegmentStacks.cede.Goals.After-min-until}
use Rattle.span_self_time.proofs.division.segment_stacks.SegmentStacks.cede.Goals as goal

-- how far the span takes the segment
up_to : (c : After-min-until) → IsTakenUpTo (owner_of c.args.span.now) c.args.from c.min-until.result c.args.owned.now
up_to c =
    let ends : to_z w64 (of_z w64 c.args.owned.now.segment.until) ≡ c.args.owned.now.segment.until = search rules in
    let covers : to_z w64 (of_z w64 c.args.span.now.span_until) ≡ c.args.span.now.span_until = search rules in
    let least : c.min-until.result ≡ int_min c.args.owned.now.segment.until c.args.span.now.span_until = rw (ends, covers) at c.min-until.ensures.value in
    IsTakenUpTo-next (owner_of c.args.span.now) c.args.from c.min-until.result c.args.owned.now _ _ _ c.requires.next.holds.next least

until_is : (c : After-min-until) → to_z w64 (of_z w64 c.min-until.result) ≡ c.min-until.result
until_is c = search rules

from_is : (c : After-min-until) → to_z w64 (of_z w64 c.args.from) ≡ c.args.from
from_is c = search rules

pub charge-requires-clause-change : goal.charge-requires-clause-change
charge-requires-clause-change c =
    let at = (goal.at.charge-requires-clause-change c).After-min-until in
    let is = c.requires.next.holds in
    rw (from_is at, until_is at) (record { old = _; new = _; are = is.times; change = IsReplaced-ceded _ _ _ _ _ _ _ is.next c.requires.above (up_to at) })

pub push_own-requires-clause-lasts : goal.push_own-requires-clause-lasts
push_own-requires-clause-lasts c =
    let at = (goal.at.push_own-requires-clause-lasts c).After-min-until in
    rw (until_is at, from_is at) (up_to at).forward

pub returns-clause-taken : goal.returns-clause-taken
returns-clause-taken c = λ owners is.
    let at = (goal.at.returns-clause-taken c).After-min-until in
    let span = owner_of c.args.span.now in
    let owned = c.args.owned.now in
    let old = c.args.self.now in
    let until = until_is at in
    let from = from_is at in
    let up = up_to at in
    let start : to_z w64 (of_z w64 owned.segment.start) ≡ owned.segment.start = search rules in
    let ends : to_z w64 (of_z w64 owned.segment.until) ≡ owned.segment.until = search rules in
    let past : c.push_between.new.segments.items ≡ old.past.items ++ piece owned owned.segment.start c.args.from = rw (start, from) at c.push_between.ensures.items in
    let future : c.push_between-2.new.segments.items ≡ old.future.items ++ piece owned c.min-until.result owned.segment.until = rw (until, ends) at c.push_between-2.ensures.items in
    let pushes = rw (from, until, past) at c.push_own.ensures.past in
    let pushed = pushes (taken span owners) (IsOnly-taken span owners is.next.new) (Belong-ceded _ _ _ _ _ _ _ is.next c.requires.above up) (ArePast-ceded _ _ _ _ _ _ is.next) in
    let charged = rw (from, until) at c.charge.ensures.times in
    let head = rw (start, from) at c.push_between.ensures.len in
    let tail = rw (until, ends) at c.push_between-2.ensures.len in
    rw until (record {
      taken = rw future (IsTakenTo-ceded span c.args.from c.min-until.result owned old.past.items c.push_own.new.past.items old.future.items owners is.next c.requires.above up pushed);
      times = charged _ _ is.times (IsReplaced-ceded _ _ _ _ _ _ _ is.next c.requires.above up);
      kept = c.charge.ensures.kept c.args.span.now.segment.name is.kept;
      room = λ short.
          let none = piece-none owned c.min-until.result owned.segment.until (omega (arith, ints, up.rest short)) in
          omega (arith, is.room, head, tail, none, c.push_own.ensures.len, c.push_own.ensures.capacity, c.push_between.ensures.capacity);
    })

pub returns-clause-on : goal.returns-clause-on
returns-clause-on c =
    let at = (goal.at.returns-clause-on c).After-min-until in
    rw (until_is at) (up_to at).forward

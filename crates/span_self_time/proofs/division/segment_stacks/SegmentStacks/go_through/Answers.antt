use Rattle.std.proofs.{Common.{◌≡◌, ◌<ℤ◌, true, reverse, rules, sym, ap, ◌∙◌, w64, to_z, of_z}, lemmas.Int.to_z-of_z}
use Rattle.span_self_time.specs.Division.SegmentStacks.{starts_before}
use Rattle.span_self_time.proofs.{Counts.distance-later, SegmentStacks.Ends.starts_before-future}
use Rattle.span_self_time.proofs.division.segment_stacks.SegmentStacks.go_through.Goals as goal

pub go_on-time-requires-clause-taken : goal.go_on-time-requires-clause-taken
go_on-time-requires-clause-taken c =
    let from : to_z w64 (of_z w64 c.args.from) ≡ c.args.from = to_z-of_z w64 c.args.from c.ranges.from in
    record {
      owners = c.requires.owners;
      holds = c.loop-self.invariant c.requires.owners (rw from c.requires.holds);
    }

pub loop-self-smaller : goal.loop-self-smaller
loop-self-smaller c =
    let from : to_z w64 (of_z w64 c.args.from) ≡ c.args.from = to_z-of_z w64 c.args.from c.ranges.from in
    let until : to_z w64 (of_z w64 c.args.span.now.span_until) ≡ c.args.span.now.span_until = search rules in
    let on : to_z w64 (of_z w64 c.go_on-time.result) ≡ c.go_on-time.result = search rules in
    let is = c.loop-self.invariant c.requires.owners (rw from c.requires.holds) in
    let next : starts_before c.args.span.now.span_until (reverse c.loop-self.self.future.items) ≡ true =
    ap (λ t. starts_before t (reverse c.loop-self.self.future.items)) (sym until) ∙ sym c.loop-self-test.ensures in
    let before : to_z w64 c.loop-self.time-bits <ℤ c.args.span.now.span_until = starts_before-future c.requires.owners (to_z w64 c.loop-self.time-bits) c.args.span.now.span_until (reverse c.loop-self.self.future.items) is.taken.after next in
    rw on (distance-later (to_z w64 c.loop-self.time-bits) c.go_on-time.result c.args.span.now.span_until c.go_on-time.ensures.on before)

pub loop-self-preserved : goal.loop-self-preserved
loop-self-preserved c = λ owners start.
    let on : to_z w64 (of_z w64 c.go_on-time.result) ≡ c.go_on-time.result = search rules in
    rw on (c.go_on-time.ensures.taken owners (c.loop-self.invariant owners start))

pub returns-clause-taken : goal.returns-clause-taken
returns-clause-taken c = λ owners start.
    let from : to_z w64 (of_z w64 c.args.from) ≡ c.args.from = to_z-of_z w64 c.args.from c.ranges.from in
    c.loop-self.invariant owners (rw from start)

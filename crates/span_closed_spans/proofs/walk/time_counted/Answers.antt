use Rattle.std.proofs.{Common.{◌≡◌, ◌+◌, Bool, true, false, cond, map, w64, to_z, of_z, to_z-of_z, sym, ◌∙◌, arith}, lemmas.Int.ints}
use Rattle.span_closed_spans.specs.{distance, span_of}
use Rattle.span_closed_spans.proofs.{Unbroken.{counted_from, counted_from-is, counted_from-end, counted_from-step, counted_from-le}, walk.time_counted.Goals.After-counts}
use Rattle.span_closed_spans.proofs.walk.time_counted.Goals as goal

-- one stretch of the walk
step : (c : After-counts) (b : Bool) → c.counts.result ≡ b → counted_from (map span_of c.args.spans.now) c.args.counted (to_z w64 c.loop-u.u-bits) (to_z w64 (of_z w64 c.args.until))
    ≡ cond b (distance (to_z w64 c.loop-u.u-bits) (to_z w64 (of_z w64 c.next_boundary-next.result))) 0 + counted_from (map span_of c.args.spans.now) c.args.counted (to_z w64 (of_z w64 c.next_boundary-next.result)) (to_z w64 (of_z w64 c.args.until))
step c b is =
    let kept : to_z w64 (of_z w64 c.next_boundary-next.result) ≡ c.next_boundary-next.result = omega (arith, ints) in
    rw kept (counted_from-step c.args.spans.now c.args.counted _ _ _ b (omega (arith, ints)) (omega (arith, ints)) c.next_boundary-next.ensures.unbroken (sym is ∙ c.counts.ensures))

pub overflow_add-time : goal.overflow_add-time
overflow_add-time c =
    let from : to_z w64 (of_z w64 c.args.from) ≡ c.args.from = to_z-of_z c.ranges.from in
    let until : to_z w64 (of_z w64 c.args.until) ≡ c.args.until = to_z-of_z c.ranges.until in
    let most = counted_from-le (map span_of c.args.spans.now) c.args.counted (to_z w64 (of_z w64 c.args.from)) (to_z w64 (of_z w64 c.args.until)) (rw (from, until) c.requires.forward) (rw from c.requires.from_in_time) (rw until c.requires.to_in_time) in
    omega (arith, step (goal.at.overflow_add-time c).After-counts true c.if-counts.true, most, c.loop-u.invariant.2, c.distance-time.ensures)

pub loop-u-preserved-then-counts : goal.loop-u-preserved-then-counts
loop-u-preserved-then-counts c =
    let step = step (goal.at.loop-u-preserved-then-counts c).After-counts true c.if-counts.true in
    (omega (arith, ints, c.loop-u.invariant.0), omega (arith, ints), omega (arith, step, c.loop-u.invariant.2, c.distance-time.ensures))

pub loop-u-preserved : goal.loop-u-preserved
loop-u-preserved c =
    let step = step (goal.at.loop-u-preserved c).After-counts false c.if-counts.false in
    (omega (arith, ints, c.loop-u.invariant.0), omega (arith, ints), omega (arith, step, c.loop-u.invariant.2))

pub returns : goal.returns
returns c =
    let from : to_z w64 (of_z w64 c.args.from) ≡ c.args.from = to_z-of_z c.ranges.from in
    let until : to_z w64 (of_z w64 c.args.until) ≡ c.args.until = to_z-of_z c.ranges.until in
    let ends : to_z w64 c.loop-u.u-bits ≡ to_z w64 (of_z w64 c.args.until) = omega (arith, ints) in
    let all = rw (from, until) at c.loop-u.invariant.2 in
    omega (arith, all, counted_from-end (map span_of c.args.spans.now) c.args.counted (to_z w64 c.loop-u.u-bits) c.args.until (ends ∙ until), counted_from-is (map span_of c.args.spans.now) c.args.counted c.args.from c.args.until)

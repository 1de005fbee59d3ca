use Rattle.std.proofs.Common.{arith}
use Rattle.bench_tracking.proofs.Ready.{IsNext-IsReady, HasRoom-IsReady, IsReady-later, IsReady-next}
use Rattle.bench_tracking.proofs.tracking.take.Goals as goal
use Rattle.bench_tracking.proofs.tracking.take.Goals.{in-SpanBegin+in_ok-begin_span-in-SpanBegin, in-SpanEnd+in_ok-end-in-SpanEnd, in-Complete+in_ok-complete-in-Complete, in_default}

pub begin_span-requires-clause-room : goal.begin_span-requires-clause-room
begin_span-requires-clause-room c = HasRoom-IsReady _ c.args.track.now c.requires (omega (arith, c.ranges.at.fits, c.if-at-eq4294967295.false))

pub begin_span-requires-clause-next : goal.begin_span-requires-clause-next
begin_span-requires-clause-next c = IsNext-IsReady _ c.args.track.now c.requires

pub complete-requires-clause-room : goal.complete-requires-clause-room
complete-requires-clause-room c = HasRoom-IsReady _ c.args.track.now c.requires (omega (arith, c.ranges.at.fits, c.if-at-eq4294967295.false))

pub complete-requires-clause-next : goal.complete-requires-clause-next
complete-requires-clause-next c = IsNext-IsReady _ c.args.track.now c.requires

pub returns : goal.returns
returns c = elim c.match-event.branch [
  | in-SpanBegin+in_ok-begin_span-in-SpanBegin w ↦ rw w.track-is (IsReady-next _ c.args.track.now _ _ (omega arith) c.requires w.in_ok-begin_span-in-SpanBegin.ensures.stands)
  | in-SpanEnd+in_ok-end-in-SpanEnd w ↦ rw w.track-is (IsReady-next _ c.args.track.now _ _ tt c.requires w.in_ok-end-in-SpanEnd.ensures)
  | in-Complete+in_ok-complete-in-Complete w ↦ rw w.track-is (IsReady-next _ c.args.track.now _ _ (omega arith) c.requires w.in_ok-complete-in-Complete.ensures.stands)
  | in_default w ↦ rw w.track-is (IsReady-later _ c.args.track.now c.requires)
]

use Rattle.span_self_time.proofs.SelfSums.{lasts-read, IsInTime-read}
use Rattle.span_closed_spans.proofs.closed.tests.expect_self_times.Goals as goal

pub self_time-own-requires-clause-lasts : goal.self_time-own-requires-clause-lasts
self_time-own-requires-clause-lasts g c =
    lasts-read c.args.spans.now c.loop-span.span-index c.span-item.result c.requires c.loop-span-test.true c.span-item.is

pub self_time-own-requires-clause-in_time : goal.self_time-own-requires-clause-in_time
self_time-own-requires-clause-in_time g c =
    IsInTime-read c.args.spans.now c.loop-span.span-index c.span-item.result c.requires c.loop-span-test.true c.span-item.is

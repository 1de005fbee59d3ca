use Rattle.std.proofs.Common.{arith}
use Rattle.span_read.proofs.Documents.{length-doc}
use Rattle.span_collect.proofs.worker.work.Goals as goal

-- a file has few items
pub tell_all-requires-clause-few : goal.tell_all-requires-clause-few
tell_all-requires-clause-few g c κs within = omega (arith, length-doc c.args.reading.format _ c.in-Ok.items c.in-Ok.ensures.items)

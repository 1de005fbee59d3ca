use Rattle.span_report.proofs.Taking.{TakesBytes-next}
use Rattle.span_report.proofs.output.write_bytes.Goals as goal

pub loop-taken-preserved : goal.loop-taken-preserved
loop-taken-preserved g c = TakesBytes-next _ _ _ _ _ _ c.loop-taken.invariant c.in-Ok.ensures.progress.1 c.in-Ok.ensures.ok

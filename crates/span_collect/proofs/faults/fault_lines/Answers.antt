use Rattle.span_collect.specs.{FaultLines.end_line, declared.files.FileEnd.TheVariants.Read}
use Rattle.span_collect.proofs.EndLines.{of_each_end-take_more}
use Rattle.span_collect.proofs.faults.fault_lines.Goals as goal

-- the line that was put is the next one
pub loop-place-preserved : goal.loop-place-preserved
loop-place-preserved c =
    let more = of_each_end-take_more end_line c.args.files.now c.args.ends.now c.loop-place.place c.index-files-place.result (Read 0 0) c.loop-place-test.true c.requires in
    let put = rw c.loop-place.invariant at c.in_ok-put_end.ensures in
    rw (more, ← c.index-files-place.is) put

use Rattle.std.proofs.Common.{◌∙◌, append_assoc, get_or, take}
use Rattle.span_collect.specs.{count_row, head_lines, FaultLines.of_each_end, Refusals.Text.file_lines, declared.files.FileEnd.TheVariants.Read}
use Rattle.span_collect.proofs.EndLines.{of_each_end-take_more}
use Rattle.span_collect.proofs.refusals.text.refusals_text.Goals as goal

-- the lines that were put are those of the next file
pub loop-place-preserved : goal.loop-place-preserved
loop-place-preserved c =
    let journal = c.args.ledger.now.journal in
    let place = c.loop-place.place in
    let more = of_each_end-take_more (file_lines journal) c.args.files.now c.args.ends.now place c.index-files-place.result (Read 0 0) c.loop-place-test.true c.requires in
    let passed = of_each_end (file_lines journal) (take place c.args.files.now) (take place c.args.ends.now) in
    let added = file_lines journal c.index-files-place.result.name (get_or c.args.ends.now place (Read 0 0)) in
    let put = rw c.loop-place.invariant at (c.in_ok-put_file.ensures journal c.in_ok-tallies.ensures) in
    rw (more, ← c.index-files-place.is) (put ∙ append_assoc (head_lines c.args.unit (count_row journal)) passed added)

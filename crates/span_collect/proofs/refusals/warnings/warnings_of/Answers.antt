use Rattle.std.proofs.Common.{sym, ap, ◌∙◌}
use Rattle.span_collect.specs.{CountRow, Refusals.Warnings.file_warnings, declared.files.FileEnd.TheVariants.Read}
use Rattle.span_collect.proofs.{EndLines.of_each_end-take_more, RefusalLemmas.NoWarnings.warnings_of-none}
use Rattle.span_collect.proofs.refusals.warnings.warnings_of.Goals as goal

-- the warning that was added is that of the next file
pub loop-place-preserved : goal.loop-place-preserved
loop-place-preserved c =
    let journal = c.args.ledger.now.journal in
    let place = c.loop-place.place in
    let more = of_each_end-take_more (file_warnings journal) c.args.files.now c.args.ends.now place c.index-files-place.result (Read 0 0) c.loop-place-test.true c.requires in
    let pushed = rw c.loop-place.invariant at (c.in_ok-push_file.ensures journal c.in_ok-tallies.ensures) in
    rw (more, ← c.index-files-place.is) pushed

-- nothing was refused
pub returns-then-counts-eq0 : goal.returns-then-counts-eq0
returns-then-counts-eq0 c =
    let journal = c.args.ledger.now.journal in
    c.new-warnings.ensures.items ∙ sym (warnings_of-none journal (sym (ap (λ (row : CountRow). row.refused) c.counts.ensures) ∙ c.if-counts-eq0.true) c.args.files.now c.args.ends.now)

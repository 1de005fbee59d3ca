use Rattle.span_runs.proofs.Alone.{length-alone}
use Rattle.span_runs.proofs.file_run.collect_alone.Goals as goal

-- there is one end for the file
pub returns-in-Ok-clause-one : goal.returns-in-Ok-clause-one
returns-in-Ok-clause-one g c =
    let end = c.in-Ok.collected.end in
    length-alone c.args.file.now c.args.settings.now end.ends.items end.asked end.sealing c.in-Ok.collected.ledger.journal (rw c.from_ref.ensures.value at c.in-Ok.ensures.account)

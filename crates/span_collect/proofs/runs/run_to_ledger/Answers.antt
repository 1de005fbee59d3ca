use Rattle.span_report.proofs.SameReports.{report_of-alike}
use Rattle.span_collect.specs.{report_of, Run.of_journal}
use Rattle.span_collect.proofs.{CutShort.IsCutShort-failed, InTurn.Texts.{FailsAsInTurn-same, WritesAsInTurn-same}, NotCollected.{RunLeaves-not_collected, FailsAsInTurn-not_collected}, OneFile.WritesOneFile-in_turn, Statuses.status_of-lt}
use Rattle.span_collect.proofs.runs.run_to_ledger.Goals as goal

-- nothing was collected
pub returns-in-Err-clause-error : goal.returns-in-Err-clause-error
returns-in-Err-clause-error g c = RunLeaves-not_collected (of_journal (report_of c.args.settings.now.format.unit)) c.in-Err.error c.args.files.now c.args.asks.now c.args.settings.now _ c.in-Err.ensures.error

pub returns-in-Err-clause-error_in_turn : goal.returns-in-Err-clause-error_in_turn
returns-in-Err-clause-error_in_turn g c = FailsAsInTurn-not_collected (of_journal (report_of c.args.settings.now.format.unit)) c.in-Err.error c.args.files.now c.args.asks.now c.args.settings.now _ _ c.in-Err.ensures.error

-- the output failed in the report of what was collected
pub returns-clause-error : goal.returns-clause-error
returns-clause-error g c =
    IsCutShort-failed (of_journal (report_of c.args.settings.now.format.unit)) c.args.files.now c.args.asks.now c.args.settings.now c.in-Ok.collected.end c.in-Ok.collected.ledger.journal _ _ _
    c.in-Ok.ensures.account c.in-Ok.ensures.status c.if-collected-eq2.false (rw c.in-Err-Output.field-0-is at c.in-Err-Output.ensures.fault)

-- the report of the files in turn was written
pub returns-in-Ok-write_report-clause-in_turn : goal.returns-in-Ok-write_report-clause-in_turn
returns-in-Ok-write_report-clause-in_turn g c =
    let run = c.in-Ok.collected in
    WritesAsInTurn-same (of_journal (report_of c.args.settings.now.format.unit)) c.args.files.now c.args.asks.now c.args.settings.now run.end.status run.end.ends.items run.ledger.journal
    (λ separate below. report_of-alike c.args.settings.now.format.unit _ _ (c.in-Ok.ensures.in_turn separate below)) _ _ c.in-Ok-write_report.ensures.ok

-- of one file it is the report of what one caller tells
pub returns-in-Ok-write_report-clause-one_file : goal.returns-in-Ok-write_report-clause-one_file
returns-in-Ok-write_report-clause-one_file g c =
    WritesOneFile-in_turn (of_journal (report_of c.args.settings.now.format.unit)) c.args.files.now c.args.asks.now c.args.settings.now c.in-Ok.collected.end.status _ _ (returns-in-Ok-write_report-clause-in_turn g c)

-- the output failed in the report of the files in turn
pub returns-clause-error_in_turn : goal.returns-clause-error_in_turn
returns-clause-error_in_turn g c =
    let run = c.in-Ok.collected in
    let ended = status_of-lt run.end.ends.items run.end.asked run.end.sealing (rw c.in-Ok.ensures.status at c.if-collected-eq2.false) in
    FailsAsInTurn-same (of_journal (report_of c.args.settings.now.format.unit)) c.args.files.now c.args.asks.now c.args.settings.now run.end.status run.end.ends.items run.ledger.journal
    (λ separate below. report_of-alike c.args.settings.now.format.unit _ _ (c.in-Ok.ensures.in_turn separate below)) _ _
    (rw c.in-Ok.ensures.status ended) _ (rw c.in-Err-Output.field-0-is at c.in-Err-Output.ensures.fault)

use Rattle.span_request.proofs.PlainWords.{plain-report}
use Rattle.span_request.proofs.laws.report_law.Goals as goal

pub returns : goal.returns
returns c = plain-report c.files_law.ensures

use Rattle.span_request.proofs.ShownNumbers.{added-shown, tables-shown}
use Rattle.span_request.proofs.laws.numbers_law.Goals as goal

pub returns : goal.returns
returns c = record { made = tables-shown; added = added-shown }

use Rattle.span_request.proofs.Suited.{added-may, conditions-may, tables-may}
use Rattle.span_request.proofs.laws.columns_law.Goals as goal

pub returns : goal.returns
returns c = record { made = tables-may; added = added-may; tested = conditions-may }

use Rattle.span_page.proofs.Coding.{stacks-had-back}
use Rattle.span_page.proofs.laws.coding_law.Goals as goal

pub returns : goal.returns
returns c = stacks-had-back

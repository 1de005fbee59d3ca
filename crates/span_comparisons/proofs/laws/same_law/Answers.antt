use Rattle.span_comparisons.proofs.Itself.{comparison_of-itself}
use Rattle.span_comparisons.proofs.laws.same_law.Goals as goal

pub returns : goal.returns
returns c = comparison_of-itself

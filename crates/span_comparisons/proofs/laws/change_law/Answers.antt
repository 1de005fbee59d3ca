use Rattle.span_comparisons.proofs.Permuted.{changes-each}
use Rattle.span_comparisons.proofs.laws.change_law.Goals as goal

pub returns : goal.returns
returns c = changes-each

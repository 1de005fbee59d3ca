use Rattle.span_parts.proofs.PrintedSums.{sums-parts}
use Rattle.span_parts.proofs.laws.sum_law.Goals as goal

pub returns : goal.returns
returns c = sums-parts

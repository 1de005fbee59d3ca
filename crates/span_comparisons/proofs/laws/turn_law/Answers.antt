use Rattle.span_comparisons.proofs.Turned.{comparisons-turned, difference_text-turned}
use Rattle.span_comparisons.proofs.laws.turn_law.Goals as goal

pub returns-clause-changes : goal.returns-clause-changes
returns-clause-changes c = comparisons-turned

pub returns-clause-differences : goal.returns-clause-differences
returns-clause-differences c = difference_text-turned

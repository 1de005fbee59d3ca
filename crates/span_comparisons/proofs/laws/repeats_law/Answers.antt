use Rattle.span_comparisons.proofs.{AnyOrder.{keys-counted, repeats_of-moved, values-sorted}, SpreadOrder.spreads-each}
use Rattle.span_comparisons.proofs.laws.repeats_law.Goals as goal

pub returns-clause-order : goal.returns-clause-order
returns-clause-order c = repeats_of-moved

pub returns-clause-places : goal.returns-clause-places
returns-clause-places c = spreads-each

pub returns-clause-keys : goal.returns-clause-keys
returns-clause-keys c = keys-counted

pub returns-clause-values : goal.returns-clause-values
returns-clause-values c = values-sorted

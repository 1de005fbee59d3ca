use Rattle.span_self_time.proofs.{Children.self_time-add-direct_children, SelfTimes.sum_by-self_time}
use Rattle.span_self_time.proofs.laws.self_law.Goals as goal

pub returns-clause-busy : goal.returns-clause-busy
returns-clause-busy g c = sum_by-self_time

pub returns-clause-children : goal.returns-clause-children
returns-clause-children g c = self_time-add-direct_children

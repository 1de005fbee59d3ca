use Rattle.span_tasks.proofs.Fleets.{fleets-alike, fleets-whole}
use Rattle.span_tasks.proofs.laws.fleet_law.Goals as goal

pub returns-clause-whole : goal.returns-clause-whole
returns-clause-whole c = fleets-whole

pub returns-clause-alike : goal.returns-clause-alike
returns-clause-alike c = fleets-alike

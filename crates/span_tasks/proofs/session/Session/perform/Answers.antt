use Rattle.std.proofs.Common.{inl}
use Rattle.span_tasks.proofs.session.Session.perform.Goals as goal

-- the outcome is delivered
pub returns-in-Ok-clause-delivers : goal.returns-in-Ok-clause-delivers
returns-in-Ok-clause-delivers g c = inl (c.in-Ok.outcome, c.in-Ok.ensures.outcome, c.deliver-status.ensures.delivers)

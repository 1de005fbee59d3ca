use Rattle.span_tasks.proofs.Outcomes.{DeliversOne-weaker}
use Rattle.span_tasks.proofs.session.Session.perform_words.Goals as goal

-- the outcome of the request is one of the words
pub returns-in-Ok-clause-delivers : goal.returns-in-Ok-clause-delivers
returns-in-Ok-clause-delivers g c = DeliversOne-weaker (λ outcome is. (c.in-Ok.request, c.in-Ok.ensures, is)) c.perform.ensures.delivers

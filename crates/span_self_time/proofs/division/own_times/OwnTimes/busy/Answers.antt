use Rattle.std.proofs.Common.{◌∙◌}
use Rattle.span_self_time.proofs.SpanTimes.{time_of-busy_time}
use Rattle.span_self_time.proofs.division.own_times.OwnTimes.busy.Goals as goal

pub returns : goal.returns
returns c = λ spans closed are. are.of_all ∙ time_of-busy_time spans closed

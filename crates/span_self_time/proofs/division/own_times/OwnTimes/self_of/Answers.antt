use Rattle.std.proofs.Common.{◌∙◌}
use Rattle.span_self_time.proofs.SpanTimes.{time_of-self_of}
use Rattle.span_self_time.proofs.division.own_times.OwnTimes.self_of.Goals as goal

pub returns : goal.returns
returns c = λ spans closed are. c.own_in.ensures ∙ are.of_names c.args.name ∙ time_of-self_of spans closed c.args.name

use Rattle.std.proofs.Common.{◌+◌, ◌-◌, ◌*◌}
use Rattle.span_runs.proofs.jobs.+jobs.Given as goal

-- jobs are divided in two, each of which is begun by a call of its own
abbrev pub decreases-take_part : goal.decreases-take_part
decreases-take_part g l = 3 * l.part.jobs

abbrev pub decreases-take_both : goal.decreases-take_both
decreases-take_both g l = 3 * (l.front.jobs + l.back.jobs) - 1

abbrev pub decreases-take_both-join_mut+arg2 : goal.decreases-take_both-join_mut+arg2
decreases-take_both-join_mut+arg2 g l = 3 * l.front.jobs + 1

abbrev pub decreases-take_both-join_mut+arg3 : goal.decreases-take_both-join_mut+arg3
decreases-take_both-join_mut+arg3 g l = 3 * l.back.jobs + 1

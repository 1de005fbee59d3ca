use Rattle.std.proofs.Common.{◌+◌, ◌-◌, ◌*◌}
use Rattle.span_read.proofs.parts.+parts.Given as goal

-- parts are divided in two, each of which is begun by a call of its own
abbrev pub decreases-read_part : goal.decreases-read_part
decreases-read_part g l = 3 * l.part.parts

abbrev pub decreases-read_both : goal.decreases-read_both
decreases-read_both g l = 3 * (l.front.parts + l.back.parts) - 1

abbrev pub decreases-read_both-join_mut+arg2 : goal.decreases-read_both-join_mut+arg2
decreases-read_both-join_mut+arg2 g l = 3 * l.front.parts + 1

abbrev pub decreases-read_both-join_mut+arg3 : goal.decreases-read_both-join_mut+arg3
decreases-read_both-join_mut+arg3 g l = 3 * l.back.parts + 1

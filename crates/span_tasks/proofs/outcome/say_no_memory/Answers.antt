use Rattle.std.specs.Fmt.{digits}
use Rattle.span_tasks.specs.{fault_of, numbered}
use Rattle.span_tasks.proofs.outcome.say_no_memory.Goals as goal

-- the fixed bytes are the line of 31
pub returns : goal.returns
unfolding numbered fault_of digits
returns g c = c.say.ensures

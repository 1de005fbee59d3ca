use Rattle.std.proofs.{Common.{◌+◌, ◌≤◌, arith}, lemmas.Grind.common_steps}
use Rattle.span_runs.specs.Jobs.{Taken, Parted}
use Rattle.span_runs.proofs.jobs.+jobs.Goals as goal

-- one job takes them
pub take_part-returns-then-part-lt2 : goal.take_part-returns-then-part-lt2
take_part-returns-then-part-lt2 g t c = Taken c.args.part.from c.args.part.to c.take.result c.take.ensures

-- two parts are joined
pub take_part-returns : goal.take_part-returns
take_part-returns g t c =
    let middle : c.args.part.from + c.cut.result ≤ c.args.part.to = grind (arith, common_steps) in
    Parted c.args.part.from (c.args.part.from + c.cut.result) c.args.part.to c.take_both-first.result.0 c.take_both-first.result.1 c.joined.result (omega arith) middle c.take_both-first.ensures.front c.take_both-first.ensures.back c.joined.ensures

use Rattle.std.proofs.Common.{length}
use Rattle.span_collect.proofs.workers.+work_all.Given as goal

-- the other files are fewer
abbrev pub decreases-work_all : goal.decreases-work_all
decreases-work_all g l = length l.files.now

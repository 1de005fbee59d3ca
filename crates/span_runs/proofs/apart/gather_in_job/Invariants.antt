use Rattle.std.proofs.Common.{take}
use Rattle.span_runs.specs.{Apart.GathersFiles, Runs.shortened}
use Rattle.span_runs.proofs.apart.gather_in_job.Given as goal

-- the files so far are gathered
abbrev pub invariant-loop-name : goal.invariant-loop-name
invariant-loop-name g l = GathersFiles (g.S.Source.bytes l.work.source.now) (take l.name-index l.names) l.work.settings (shortened l.work.cut (g.T.Gathering.come_to l.work.by.now)) l.gathered

use Rattle.std.proofs.Common.{◌≡◌, take}
use Rattle.span_page.specs.Data.{threads_of}
use Rattle.span_page.proofs.data.threads_of.Given as goal

-- the threads of the processes so far
abbrev pub invariant-loop-process : goal.invariant-loop-process
invariant-loop-process l = l.threads.items ≡ threads_of (take l.process-index l.processes)

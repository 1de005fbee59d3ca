use Rattle.std.proofs.Common.{◌≡◌, ◌++◌, map, take}
use Rattle.span_page.specs.{ThreadRows}
use Rattle.span_page.proofs.data.put_threads_in.Given as goal

-- the threads so far
abbrev pub invariant-loop-thread : goal.invariant-loop-thread
invariant-loop-thread l = l.threads.items ≡ l.fn.threads.items ++ map (λ (thread : ThreadRows). record { pid = thread.row.pid; tid = thread.row.tid }) (take l.thread-index l.process.threads)

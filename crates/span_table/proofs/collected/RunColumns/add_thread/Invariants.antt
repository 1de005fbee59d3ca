use Rattle.std.proofs.Common.{map, take}
use Rattle.span_table.specs.{Collected.Takes, Timed, thread_events, closed_spans, Tables.{keyed_span, with_only}}
use Rattle.span_table.proofs.collected.RunColumns.add_thread.Given as goal

-- the spans so far are taken
abbrev pub invariant-loop-place : goal.invariant-loop-place
invariant-loop-place l = Takes l.fn.groups l.groups (map (λ (t : Timed). with_only l.self.schema.now.numbers (keyed_span l.self.schema.now.columns l.self.run.now l.thread (closed_spans (thread_events l.thread l.self.run.now.journal)) t)) (take l.place l.timed-items))

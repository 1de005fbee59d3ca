use Rattle.std.specs.List.{AllByRecursion}
use Rattle.std.proofs.Common.{◌≡◌, ◌+◌, ◌++◌, List, cond, length}
use Rattle.span_report.specs.{Stacks.{Descent.{last_visited, left_of}, Pending.{IsSound, left, pending_stack}, Ticks.{Stack, same_stack}}, declared.stacks.pending.PendingFrame.PendingFrame}
use Rattle.span_report.proofs.stacks.descent.Descent.split_next.Given as goal

-- what the frames that were taken off had is had by those found, and as own time
abbrev pub invariant-loop-frame : goal.invariant-loop-frame
invariant-loop-frame l = record {
  spans : l.self.spans ≡ l.fn.self.spans;
  stack : l.self.stack.items ≡ l.fn.self.stack.items;
  popped : (frames : List PendingFrame) × (l.fn.self.pending.items ≡ l.self.pending.items ++ frames);
  counts : (stack : Stack) →
      left l.fn.self.spans (last_visited l.fn.self) l.self.pending.items stack
      + (left l.fn.self.spans (pending_stack (last_visited l.fn.self) l.first) l.self.found.items stack + cond (same_stack stack (pending_stack (last_visited l.fn.self) l.first)) l.time 0)
      ≡ left_of l.fn.self stack;
  found : AllByRecursion (λ p. (p.below ≡ l.first.below + 1) × IsSound l.fn.self.spans p.over) l.self.found.items;
}

abbrev pub decreases-loop-frame : goal.decreases-loop-frame
decreases-loop-frame l = length l.self.pending.items

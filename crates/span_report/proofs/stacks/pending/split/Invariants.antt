use Rattle.std.specs.List.{AllByRecursion}
use Rattle.std.proofs.Common.{◌≡◌, ◌+◌, ◌-◌, ◌≤◌, ◌≤ℤ◌, cond, length}
use Rattle.span_report.specs.{distance, Stacks.{Pending.{IsSound, left, times_on}, Ticks.{Stack, same_stack}}}
use Rattle.span_report.proofs.stacks.pending.split.Given as goal

-- what was found, the time without a span, and the rest have together what the stretch has
abbrev pub invariant-loop-frame : goal.invariant-loop-frame
invariant-loop-frame l = record {
  from : l.whole.from ≤ℤ l.rest.from;
  forward : l.rest.from ≤ℤ l.rest.until;
  until : l.rest.until ≡ l.whole.until;
  within : l.rest.next ≤ length l.spans;
  small : l.time + distance l.rest.from l.rest.until ≤ distance l.whole.from l.whole.until;
  counts : (base : Stack) → length base ≡ l.below → (stack : Stack) →
      left l.spans base l.found.items stack + (cond (same_stack stack base) l.time 0 + times_on l.spans base l.rest stack) ≡ left l.spans base l.fn.found.items stack + times_on l.spans base l.whole stack;
  sound : AllByRecursion (λ p. (p.below ≡ l.below) × IsSound l.spans p.over) l.fn.found.items → AllByRecursion (λ p. (p.below ≡ l.below) × IsSound l.spans p.over) l.found.items;
}

abbrev pub decreases-loop-frame : goal.decreases-loop-frame
decreases-loop-frame l = length l.spans - l.rest.next

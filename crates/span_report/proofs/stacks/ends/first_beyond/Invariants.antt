use Rattle.std.proofs.Common.{◌-◌, ◌≤◌, length}
use Rattle.span_report.specs.Stacks.Pending.{NoneCovers}
use Rattle.span_report.proofs.stacks.ends.first_beyond.Given as goal

-- none of the spans so far covers any of the time
abbrev pub invariant-loop-at : goal.invariant-loop-at
invariant-loop-at l = record {
  behind : l.fn.next ≤ l.at;
  within : l.at ≤ length l.spans;
  over : NoneCovers l.spans l.fn.next l.at l.time;
}

abbrev pub decreases-loop-at : goal.decreases-loop-at
decreases-loop-at l = length l.spans - l.at

use Rattle.std.proofs.Common.{◌≤◌, length}
use Rattle.span_report.specs.Stacks.Pending.{AreLinks}
use Rattle.span_report.proofs.stacks.ends.links_of.Given as goal

-- the links from the place on are known
abbrev pub invariant-loop-at : goal.invariant-loop-at
invariant-loop-at l = record {
  within : l.at ≤ length l.spans;
  links : AreLinks l.at l.spans l.links.items;
}

abbrev pub decreases-loop-at : goal.decreases-loop-at
decreases-loop-at l = l.at

use Rattle.std.specs.List.{common_prefix_len}
use Rattle.std.proofs.Common.{◌≡◌, ◌+◌, ◌-◌, ◌≤◌, drop, length}
use Rattle.span_page.proofs.GraphRows.{same_label}
use Rattle.span_page.proofs.graph.shared.Given as goal

-- those so far, and those of the rest
abbrev pub invariant-loop-alike : goal.invariant-loop-alike
invariant-loop-alike l = (l.alike ≤ length l.values) × (common_prefix_len same_label l.before l.values ≡ l.alike + common_prefix_len same_label (drop l.alike l.before) (drop l.alike l.values))

abbrev pub decreases-loop-alike : goal.decreases-loop-alike
decreases-loop-alike l = length l.values - l.alike

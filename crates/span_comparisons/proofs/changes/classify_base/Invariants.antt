use Rattle.std.proofs.Common.{◌≤◌, map, take}
use Rattle.span_comparisons.specs.{Row, Changed.Classifies, Changes.compared_at}
use Rattle.span_comparisons.proofs.changes.classify_base.Given as goal

-- the keys so far are classified
abbrev pub invariant-loop-row : goal.invariant-loop-row
invariant-loop-row l = record {
  classified : Classifies l.shown (map (λ (row : Row). compared_at l.base l.other row.key) (take l.row-index l.base)) l.found.changes.items l.found.same l.found.all;
  few : l.found.all ≤ l.row-index;
}

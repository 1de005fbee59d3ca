use Rattle.std.specs.Prelude.{filter}
use Rattle.std.proofs.Common.{◌++◌, ◌+◌, ◌^◌, ◌≤◌, map, take}
use Rattle.span_comparisons.specs.{Row, Changed.{Classifies, base_keys, is_new}, Changes.compared_at}
use Rattle.span_comparisons.proofs.changes.classify_new.Given as goal

-- the keys of the base, and those so far that it lacks, are classified
abbrev pub invariant-loop-row : goal.invariant-loop-row
invariant-loop-row l = record {
  classified : Classifies l.shown (base_keys l.base l.other ++ map (λ (row : Row). compared_at l.base l.other row.key) (filter (is_new l.base) (take l.row-index l.other))) l.found.changes.items l.found.same l.found.all;
  few : l.found.all ≤ 2 ^ 64 + l.row-index;
}

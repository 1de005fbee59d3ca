use Rattle.std.proofs.Common.{◌≡◌, ◌++◌, map, take}
use Rattle.span_comparisons.specs.{Row}
use Rattle.span_comparisons.proofs.repeated.push_row_keys.Given as goal

-- the keys of the rows so far
abbrev pub invariant-loop-row : goal.invariant-loop-row
invariant-loop-row l = map (λ key. key.now) l.keys.items ≡ map (λ key. key.now) l.fn.keys.items ++ map (λ (row : Row). row.key) (take l.row-index l.rows)

use Rattle.std.proofs.Common.{◌≡◌, ◌++◌, string_bytes, take, flat_map}
use Rattle.span_comparisons.specs.Comparison.{numbers_line}
use Rattle.span_comparisons.proofs.comparisons.put_changes.Given as goal

-- the lines of those so far
abbrev pub invariant-loop-change : goal.invariant-loop-change
invariant-loop-change l = string_bytes l.out ≡ string_bytes l.fn.out ++ flat_map (numbers_line l.numbers) (take l.change-index l.changes)

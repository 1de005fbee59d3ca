use Rattle.std.proofs.Common.{◌≡◌, ◌++◌, length, take, flat_map}
use Rattle.span_comparisons.specs.JsonChanges.{json_change, json_heads}
use Rattle.span_comparisons.proofs.json_changes.text_of.Given as goal

-- the first line, and the lines of those so far
abbrev pub invariant-loop-change : goal.invariant-loop-change
invariant-loop-change l = l.out.items ≡ json_heads l.other.schema l.fn.unit (length l.found.changes.items) l.found.same l.base.counts l.other.counts ++ flat_map (json_change l.other.schema) (take l.change-index l.found.changes.items)

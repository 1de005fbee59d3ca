use Rattle.std.proofs.Common.{◌≡◌, ◌++◌, length}
use Rattle.span_read.proofs.arg_map.map_of.Given as goal

-- the pairs that are left, and those of the map, are the whole
abbrev pub invariant-pairs : goal.invariant-pairs
invariant-pairs l = l.pairs.items ++ l.map.entries ≡ l.fn.pairs.items

abbrev pub decreases-pairs : goal.decreases-pairs
decreases-pairs l = length l.pairs.items

use Rattle.std.proofs.Common.{◌≡◌, ◌++◌}
use Rattle.span_read.proofs.arg_map.args_of_map.Given as goal

-- the pairs so far, and those that are left, are the whole
abbrev pub invariant-loop-name : goal.invariant-loop-name
invariant-loop-name l = l.pairs.items ++ l.name-iterator ≡ l.fn.map.entries

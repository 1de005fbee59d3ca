use Rattle.std.proofs.Common.{◌≡◌, take}
use Rattle.span_narrowing.proofs.keys.copies_of.Given as goal

-- the values so far
abbrev pub invariant-loop-value : goal.invariant-loop-value
invariant-loop-value l = l.copies.items ≡ take l.value-index l.values

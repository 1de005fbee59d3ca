use Rattle.std.proofs.Common.{◌≡◌, ◌++◌, map, take}
use Rattle.span_comparisons.specs.Spreads.{keys_of}
use Rattle.span_comparisons.proofs.repeated.push_keys.Given as goal

-- the keys of the tables so far
abbrev pub invariant-loop-table : goal.invariant-loop-table
invariant-loop-table l = map (λ key. key.now) l.keys.items ≡ map (λ key. key.now) l.fn.keys.items ++ keys_of (take l.table-index l.tables)

use Rattle.std.proofs.Common.{◌≡◌, length}
use Rattle.span_runs.proofs.source.sizes_of.Given as goal

-- one size for each name so far
abbrev pub invariant-loop-name : goal.invariant-loop-name
invariant-loop-name g l = length l.sizes.items ≡ l.name-index

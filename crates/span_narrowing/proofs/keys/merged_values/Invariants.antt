use Rattle.std.proofs.Common.{◌≡◌, ◌++◌, length}
use Rattle.span_narrowing.specs.Narrowed.{merged_values}
use Rattle.span_narrowing.proofs.keys.merged_values.Given as goal

-- those so far, and behind them those that are left
abbrev pub invariant-values : goal.invariant-values
invariant-values l = merged_values l.fn.columns l.fn.values ≡ l.made.items ++ merged_values l.left l.rest

abbrev pub decreases-values : goal.decreases-values
decreases-values l = length l.rest

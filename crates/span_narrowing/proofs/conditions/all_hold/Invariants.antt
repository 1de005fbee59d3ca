use Rattle.std.proofs.Common.{◌≡◌, length}
use Rattle.span_narrowing.specs.Conditions.{all_hold}
use Rattle.span_narrowing.proofs.conditions.all_hold.Given as goal

-- those that are left decide
abbrev pub invariant-values : goal.invariant-values
invariant-values l = all_hold l.fn.conditions l.fn.values ≡ all_hold l.left l.rest

abbrev pub decreases-values : goal.decreases-values
decreases-values l = length l.rest

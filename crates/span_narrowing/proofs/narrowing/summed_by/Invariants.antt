use Rattle.std.proofs.Common.{◌≡◌, ◌++◌, map, take}
use Rattle.span_narrowing.specs.declared.conditions.Condition.{Condition}
use Rattle.span_narrowing.proofs.narrowing.summed_by.Given as goal

-- behind those that are shown, those of the conditions so far
abbrev pub invariant-loop-condition : goal.invariant-loop-condition
invariant-loop-condition l = l.all.items ≡ l.columns ++ map (λ (condition : Condition). condition.column) (take l.condition-index l.narrowing.conditions.items)

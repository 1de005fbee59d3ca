use Rattle.std.proofs.Common.{◌≡◌, ◌∷◌, map, take}
use Rattle.span_stack_sums.specs.Stacks.{label_values}
use Rattle.span_stack_sums.proofs.owner.Owner.key_of.Given as goal

-- the names, and the labels so far
abbrev pub invariant-loop-label : goal.invariant-loop-label
invariant-loop-label l = l.values.items ≡ l.self.process ∷ l.self.thread ∷ label_values (map (λ label. label.now) (take l.label-index l.stack))

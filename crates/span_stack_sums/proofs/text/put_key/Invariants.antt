use Rattle.std.specs.Prelude.{flat_map}
use Rattle.std.proofs.Common.{◌≡◌, ◌++◌, ◌∷◌, take}
use Rattle.span_stack_sums.specs.Text.{value_frame}
use Rattle.span_stack_sums.proofs.text.put_key.Given as goal

-- the first frame, and then those so far
abbrev pub invariant-loop-value : goal.invariant-loop-value
invariant-loop-value l = l.out.items ≡ l.initial.out.items ++ flat_map (λ v. 59 ∷ value_frame v) (take l.value-index l.later)

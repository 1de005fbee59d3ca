use Rattle.std.proofs.Common.{◌≡◌, map, take}
use Rattle.span_options.proofs.options.copied.Given as goal

-- the values so far
abbrev pub invariant-loop-value : goal.invariant-loop-value
invariant-loop-value l = l.texts.items ≡ map (λ value. value.now) (take l.value-index l.values)

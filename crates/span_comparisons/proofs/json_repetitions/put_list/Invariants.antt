use Rattle.std.specs.Prelude.{decimal}
use Rattle.std.proofs.Common.{map, take}
use Rattle.json.specs.Token.{number}
use Rattle.span_comparisons.specs.{Follow}
use Rattle.span_comparisons.proofs.json_repetitions.put_list.Given as goal

-- those so far
abbrev pub invariant-loop-value : goal.invariant-loop-value
invariant-loop-value l = Follow l.fn.writer l.writer (map (λ value. number (decimal value)) (take l.value-index l.values))

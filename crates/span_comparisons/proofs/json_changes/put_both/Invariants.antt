use Rattle.std.proofs.Common.{take}
use Rattle.span_comparisons.specs.{Follow, JsonChanges.both_tokens}
use Rattle.span_comparisons.proofs.json_changes.put_both.Given as goal

-- those so far
abbrev pub invariant-loop-number : goal.invariant-loop-number
invariant-loop-number l = Follow l.fn.writer l.writer (both_tokens (take l.number-index l.numbers) l.both)

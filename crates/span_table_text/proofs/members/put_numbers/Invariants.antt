use Rattle.std.proofs.Common.{take}
use Rattle.span_table_text.specs.Tokens.{Follow, sums_tokens}
use Rattle.span_table_text.proofs.members.put_numbers.Given as goal

-- those so far
abbrev pub invariant-loop-number : goal.invariant-loop-number
invariant-loop-number l = Follow l.fn.writer l.writer (sums_tokens (take l.number-index l.numbers) l.sums)

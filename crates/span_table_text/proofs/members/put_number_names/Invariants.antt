use Rattle.std.proofs.Common.{map, take}
use Rattle.json.specs.Token.{string}
use Rattle.span_table_text.specs.{number_name, Tokens.Follow}
use Rattle.span_table_text.proofs.members.put_number_names.Given as goal

-- those so far
abbrev pub invariant-loop-number : goal.invariant-loop-number
invariant-loop-number l = Follow l.fn.writer l.writer (map string (map number_name (take l.number-index l.numbers)))

use Rattle.std.proofs.Common.{map, take}
use Rattle.json.specs.Token.{string}
use Rattle.span_table_text.specs.Tokens.{Follow}
use Rattle.span_table_text.proofs.members.put_names.Given as goal

-- those so far
abbrev pub invariant-loop-name : goal.invariant-loop-name
invariant-loop-name l = Follow l.fn.writer l.writer (map string (take l.name-index l.names))

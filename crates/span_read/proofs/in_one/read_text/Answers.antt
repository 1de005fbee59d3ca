use Rattle.std.proofs.Common.{arith}
use Rattle.span_read.proofs.Bracket.{data_of_all-ended}
use Rattle.span_read.proofs.in_one.read_text.Goals as goal

pub returns-in-Ok-read_tokens : goal.returns-in-Ok-read_tokens
returns-in-Ok-read_tokens c = grind (arith, data_of_all-ended c.args.text.now c.args.bracket)

pub returns-in-Err-NotJson : goal.returns-in-Err-NotJson
returns-in-Err-NotJson c = grind (arith, data_of_all-ended c.args.text.now c.args.bracket)

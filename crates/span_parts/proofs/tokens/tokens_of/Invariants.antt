use Rattle.std.proofs.Common.{◌≡◌, ◌++◌, length, map}
use Rattle.json.specs.{Lex.tokens, Reads.token_of}
use Rattle.span_parts.proofs.tokens.tokens_of.Given as goal

-- those that were found, and those that are still to come
abbrev pub invariant-loop-token : goal.invariant-loop-token
invariant-loop-token l = map token_of l.found.items ++ l.reader ≡ tokens l.line

abbrev pub decreases-loop-token : goal.decreases-loop-token
decreases-loop-token l = length l.reader

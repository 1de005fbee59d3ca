use Rattle.std.proofs.Common.{take}
use Rattle.span_request.specs.Conditions.{AreConditions}
use Rattle.span_request.proofs.conditions.conditions_of.Given as goal

-- the conditions so far
abbrev pub invariant-loop-word : goal.invariant-loop-word
invariant-loop-word l = AreConditions (take l.word-index l.words) l.conditions.items

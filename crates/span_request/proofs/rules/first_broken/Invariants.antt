use Rattle.std.proofs.Common.{◌≡◌, false, take}
use Rattle.std.specs.List.{list_any}
use Rattle.span_request.proofs.rules.first_broken.Given as goal

-- none so far is broken
abbrev pub invariant-loop-rule : goal.invariant-loop-rule
invariant-loop-rule l = list_any (λ rule. rule.0) (take l.rule-index l.rules) ≡ false

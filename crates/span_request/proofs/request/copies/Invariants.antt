use Rattle.std.proofs.Common.{◌≡◌, take}
use Rattle.span_request.proofs.request.copies.Given as goal

-- the texts so far
abbrev pub invariant-loop-text : goal.invariant-loop-text
invariant-loop-text l = l.copied.items ≡ take l.text-index l.texts

use Rattle.std.proofs.Common.{map, take}
use Rattle.span_request.specs.Numbers.{AreCalled}
use Rattle.span_request.proofs.numbers.numbers_named.Given as goal

-- the numbers so far
abbrev pub invariant-loop-name : goal.invariant-loop-name
invariant-loop-name l = AreCalled (map (λ name. name.now) (take l.name-index l.names)) l.numbers.items

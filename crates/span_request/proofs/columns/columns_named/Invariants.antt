use Rattle.std.proofs.Common.{map, take}
use Rattle.span_request.specs.Columns.{AreEach}
use Rattle.span_request.proofs.columns.columns_named.Given as goal

-- the columns so far
abbrev pub invariant-loop-name : goal.invariant-loop-name
invariant-loop-name l = AreEach (map (λ name. name.now) (take l.name-index l.names)) l.columns.items

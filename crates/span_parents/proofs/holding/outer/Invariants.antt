use Rattle.std.specs.Option.{is_none}
use Rattle.std.proofs.Common.{◌≡◌, map, take}
use Rattle.span_parents.proofs.holding.outer.Given as goal

-- those so far that have no holder of their name
abbrev pub invariant-loop-holder : goal.invariant-loop-holder
invariant-loop-holder l = l.outer.items ≡ map is_none (take l.holder-index l.holder-items)

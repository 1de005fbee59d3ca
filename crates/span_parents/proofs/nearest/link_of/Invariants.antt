use Rattle.std.specs.Option.{option_map, unwrap_or}
use Rattle.std.proofs.Common.{suc}
use Rattle.span_parents.specs.Nearest.{ArePassed}
use Rattle.span_parents.proofs.nearest.link_of.Given as goal

abbrev pub invariant-loop-link : goal.invariant-loop-link
invariant-loop-link l = ArePassed l.ordered l.i l.link

-- how many stand up to the link
abbrev pub decreases-loop-link : goal.decreases-loop-link
decreases-loop-link l = unwrap_or (option_map suc l.link) 0

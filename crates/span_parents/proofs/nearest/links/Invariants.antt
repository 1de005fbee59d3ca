use Rattle.std.proofs.Common.{◌≡◌, length}
use Rattle.span_parents.specs.Nearest.{AreLinks}
use Rattle.span_parents.proofs.nearest.links.Given as goal

abbrev pub invariant-loop-i : goal.invariant-loop-i
invariant-loop-i l = (length l.links.items ≡ l.i) × AreLinks l.ordered l.links.items

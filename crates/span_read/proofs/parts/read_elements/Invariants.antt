use Rattle.std.proofs.Common.{◌-◌, ◌++◌, List, length}
use denote.Text.{Utf8}
use denote.Shadow.{shadow}
use Rattle.span_read.specs.{Item, Parts.AreElements}
use Rattle.span_read.proofs.parts.read_elements.Given as goal

-- the items so far, and then those of the rest, are the part's
abbrev pub invariant-pieces : goal.invariant-pieces
invariant-pieces l = shadow (Utf8 l.rest)
    × ((is : List Item) → AreElements l.part.format.unit (l.part.depth - 1) l.rest is → AreElements l.part.format.unit (l.part.depth - 1) l.part.text.now (l.items ++ is))

abbrev pub decreases-pieces : goal.decreases-pieces
decreases-pieces l = length l.rest

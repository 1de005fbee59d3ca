use Rattle.std.proofs.Common.{◌-◌, length}
use Rattle.span_read.specs.Elements.{Adds, ReadsSoFar}
use Rattle.span_read.proofs.elements.Elements.take.Given as goal

abbrev pub invariant-elements : goal.invariant-elements
invariant-elements l = ReadsSoFar (l.depth - 1) l.initial.tokens.reader l.tokens.reader (Adds l.format l.initial.self l.self)

abbrev pub decreases-elements : goal.decreases-elements
decreases-elements l = length l.tokens.reader

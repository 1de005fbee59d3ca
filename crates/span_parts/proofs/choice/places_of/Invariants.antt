use Rattle.std.specs.Prelude.{slice_get}
use Rattle.std.proofs.Common.{◌≡◌, map, take, Some}
use Rattle.span_parts.proofs.choice.places_of.Given as goal

-- the places of the columns so far
abbrev pub invariant-loop-column : goal.invariant-loop-column
invariant-loop-column l = map (slice_get l.columns) l.places.items ≡ map Some (take l.column-index l.wanted)

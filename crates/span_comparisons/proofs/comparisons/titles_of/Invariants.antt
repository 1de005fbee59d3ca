use Rattle.std.proofs.Common.{◌≡◌, flat_map, take}
use Rattle.span_comparisons.specs.Comparison.{changed_titles}
use Rattle.span_comparisons.proofs.comparisons.titles_of.Given as goal

-- those so far
abbrev pub invariant-loop-number : goal.invariant-loop-number
invariant-loop-number l = l.cells.items ≡ flat_map changed_titles (take l.number-index l.numbers)

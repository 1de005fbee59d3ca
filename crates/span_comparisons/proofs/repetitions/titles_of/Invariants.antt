use Rattle.std.proofs.Common.{◌≡◌, map, take}
use Rattle.span_comparisons.specs.Repeats.{spread_titles, wide}
use Rattle.span_comparisons.proofs.repetitions.titles_of.Given as goal

-- those so far
abbrev pub invariant-loop-title : goal.invariant-loop-title
invariant-loop-title l = l.cells.items ≡ map wide (take l.title-index spread_titles)

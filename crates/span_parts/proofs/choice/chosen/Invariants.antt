use Rattle.std.proofs.Common.{◌≡◌, ◌++◌, take}
use Rattle.span_parts.specs.Sum.{named_or_all}
use Rattle.span_parts.proofs.choice.chosen.Given as goal

-- the columns that are shown, and the first of the others
abbrev pub invariant-loop-column : goal.invariant-loop-column
invariant-loop-column l = l.chosen.items ≡ named_or_all l.shown l.columns ++ take l.column-index l.tested

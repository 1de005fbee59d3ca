-- How the totals of names are kept.
use Rattle.std.specs.Prelude.{ℕ, ◌<◌, List, [], ◌∷◌}
use Rattle.indexmap.specs.IndexMap.{spare}
use Rattle.span_closed_spans.specs.declared.name_totals.{NameTotal.NameTotal, NameTotals.{NameTotals, TheVariants.{Empty, Single, Many}}}

-- the names with their totals, in the order in which the names came
abbrev pub entries_of : NameTotals → List (ℕ × NameTotal)
entries_of Empty = []
entries_of (Single name length) = (name, record { count = 1; total = length }) ∷ []
entries_of (Many totals) = totals.value.entries

-- there is room for one more name
abbrev pub HasRoom : NameTotals → Type 0
HasRoom Empty = Unit {0}
HasRoom (Single name length) = ⊥
HasRoom (Many totals) = 0 < spare totals.value

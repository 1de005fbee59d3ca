-- Rows in order that are merged with others.
use Rattle.std.specs.{Ordering.match_ordering, Prelude.{List, [], ◌∷◌}, declared.cmp.Ordering.{Ordering, TheVariants.{Less, Greater}}}
use Rattle.span_table.specs.{Keys.key_cmp, Sums.with_sums, declared.table.Row.Row}

-- two rows of the same key added
abbrev pub with_row_sums : Row → Row → Row
with_row_sums row other = record { key = row.key; sums = with_sums row.sums other.sums }

-- a row and those behind it, merged with others, where `behind` is what those behind it are merged to
abbrev pub merged_with : Row → List Row → (List Row → List Row) → List Row → List Row
merged_with row rows behind [] = row ∷ rows
merged_with row rows behind (other ∷ more) = match_ordering (key_cmp row.key other.key) (row ∷ behind (other ∷ more)) (with_row_sums row other ∷ behind more) (other ∷ merged_with row rows behind more)

-- the lesser row comes first; two of the same key are added
abbrev pub merged : List Row → List Row → List Row
merged [] more = more
merged (row ∷ rows) more = merged_with row rows (merged rows) more

-- how the first rows compare; where there is none all keys of the other are less
abbrev pub heads_cmp : List Row → List Row → Ordering
heads_cmp [] more = Greater
heads_cmp (row ∷ rows) [] = Less
heads_cmp (row ∷ rows) (other ∷ more) = key_cmp row.key other.key

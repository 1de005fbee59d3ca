-- How rows of stacks are kept, and what they take.
use Rattle.std.specs.Prelude.{◌≡◌, ℕ, ◌<◌, ◌≤◌, List, ◌++◌, map}
use Rattle.span_stack_sums.specs.{KeyedSums, Row, RowsRise, SumsByKey, most_names, row_of, rows_of, Text.labels_in}

-- all keys rise, and those that were added have so many labels or more
pub record IsKept (rows : List Row) (kept : SumsByKey) (labels : ℕ) : Type 0 where
  pub rise : RowsRise rows
  pub kept_rise : RowsRise (map row_of kept)
  pub counted : labels ≤ labels_in (map row_of kept)

-- rows that are those of some sums become those of these and more
pub record TakesSums (old new : List Row) (more : KeyedSums) : Type 0 where
  pub rows : (sums : KeyedSums) → old ≡ rows_of sums → new ≡ rows_of (sums ++ more)

-- with more they would have too many labels
abbrev pub Exceeds : List Row → KeyedSums → Type 0
Exceeds old more = (sums : KeyedSums) → old ≡ rows_of sums → most_names < labels_in (rows_of (sums ++ more))

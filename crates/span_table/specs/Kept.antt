-- What is kept of what is added.
use Rattle.std.specs.Prelude.{ℕ, ◌<◌, ◌^◌, List, ◌++◌, map}
use Rattle.span_table.specs.{Adding.keyed_rows, Tables.{RowsRise, SumsByKey, row_of, rows_of}, declared.table.Row.Row}

-- rows in order, with what was added to them since
abbrev pub rows_with : List Row → SumsByKey → List Row
rows_with rows kept = rows_of (keyed_rows rows ++ keyed_rows (map row_of kept))

-- there are few parts, and all keys rise
pub record IsSummed (parts : ℕ) (rows : List Row) (kept : SumsByKey) : Type 0 where
  pub few : parts < 2 ^ 32
  pub rise : RowsRise rows
  pub kept_rise : RowsRise (map row_of kept)

-- Rows of a part as they are added.
use Rattle.std.specs.{Ordering.is_lt, Prelude.{◌≡◌, ℕ, Bool, true, List, [], ◌∷◌, ◌++◌, All, flat_map, fold, length, map, Option, Some, None}}
use Rattle.span_parts.specs.{Bytes, Row, Choice, only, picked, with_row, json_line, key_cmp, IsRowOf, RowsRise, Schema, SpanTable, declared.fault.PartFault.{PartFault, TheVariants.{NotTable, OtherColumns, Memory, TooMany}}}

-- the line, without its end, is that of this row
pub record IsRowLine (schema : Schema) (line : Bytes) (row : Row) : Type 0 where
  pub fits : IsRowOf schema row
  pub printed : line ++ 10 ∷ [] ≡ json_line schema row

-- what is chosen of a row
abbrev pub row_at : Choice → Row → Row
row_at choice row = record { key = picked choice.places row.key; sums = only choice.numbers row.sums }

-- the last of some rows
abbrev pub last_row : List Row → Option Row
last_row [] = None
last_row (row ∷ []) = Some row
last_row (row ∷ (next ∷ rows)) = last_row (next ∷ rows)

-- the row's key is greater than that of the last one, if there is one
abbrev pub comes_after : Row → Option Row → Bool
comes_after row None = true
comes_after row (Some last) = is_lt (key_cmp last.key row.key)

-- a table with rows added, with what is chosen of each
abbrev pub with_rows : Choice → List Row → SpanTable → SpanTable
with_rows choice rows table = fold with_row table (map (row_at choice) rows)

-- rows of a part of this schema, and their lines
pub record AreRows (schema : Schema) (text : Bytes) (rows : List Row) : Type 0 where
  pub each : All (IsRowOf schema) rows
  pub rise : RowsRise rows
  pub lines : text ≡ flat_map (json_line schema) rows

-- the rows of a text begin with these, and the rest has the lines of the others
pub record BeginWith (schema : Schema) (rest : Bytes) (done all : List Row) : Type 0 where
  pub later : List Row
  pub split : all ≡ done ++ later
  pub lines : rest ≡ flat_map (json_line schema) later

-- these rows were read of a text, up to the rest of it, and added
pub record AreAdded (schema : Schema) (choice : Choice) (text rest : Bytes) (done : ℕ) (newest : Option Row) (old new : SpanTable) : Type 0 where
  pub rows : List Row
  pub each : All (IsRowOf schema) rows
  pub rise : RowsRise rows
  pub count : length rows ≡ done
  pub last : last_row rows ≡ newest
  pub read : text ≡ flat_map (json_line schema) rows ++ rest
  pub only : (all : List Row) → AreRows schema text all → BeginWith schema rest rows all
  pub sum : new ≡ with_rows choice rows old

-- all rows of a text, so many, were read and added
pub record AllAdded (schema : Schema) (choice : Choice) (text : Bytes) (count : ℕ) (old new : SpanTable) : Type 0 where
  pub rows : List Row
  pub are : AreRows schema text rows
  pub so_many : length rows ≡ count
  pub sum : new ≡ with_rows choice rows old

-- the text is not that of so many rows
abbrev pub AreNoRows : Schema → Bytes → ℕ → Type 0
AreNoRows schema text count = (rows : List Row) → AreRows schema text rows → length rows ≡ count → ⊥

-- the line is that of this row, which comes after the last one
abbrev pub IsNextRow : Schema → Bytes → Option Row → Row → Type 0
IsNextRow schema line last row = IsRowLine schema line row × (comes_after row last ≡ true)

-- why there is no next row
abbrev pub RowFails : Schema → Bytes → Option Row → PartFault → Type 0
RowFails schema line last NotTable = (row : Row) → IsNextRow schema line last row → ⊥
RowFails schema line last OtherColumns = ⊥
RowFails schema line last Memory = Unit {0}
RowFails schema line last TooMany = Unit {0}

-- why rows are not added: they are none, or of the sum's doing
abbrev pub RowsFail : Schema → Bytes → ℕ → PartFault → Type 0
RowsFail schema text count NotTable = AreNoRows schema text count
RowsFail schema text count OtherColumns = ⊥
RowsFail schema text count Memory = Unit {0}
RowsFail schema text count TooMany = Unit {0}

-- a fault that says nothing of a text
abbrev pub IsOfSum : PartFault → Type 0
IsOfSum NotTable = ⊥
IsOfSum OtherColumns = ⊥
IsOfSum Memory = Unit {0}
IsOfSum TooMany = Unit {0}

-- Lines of numbers and values, for people.
use Rattle.std.specs.{List.join_with_byte, Prelude.{ℕ, List, [], ◌∷◌, ◌++◌, flat_map, map, decimal}}
use Rattle.span_table_text.specs.{Bytes, right_in, Column, Number, Sums, Value, number_by, number_name, number_width, TableKey, Lines.{column_title, value_text}}

-- a number, or a title of numbers, in a column of this width
pub record Cell : Type 0 where
  pub width : ℕ
  pub word : Bytes

-- it stands on the right
abbrev pub in_column : Cell → Bytes
in_column cell = right_in cell.width cell.word

-- cells with a blank between them
abbrev pub cells_text : List Cell → Bytes
cells_text cells = join_with_byte 32 (map in_column cells)

-- each with a blank before it
abbrev pub then_value : Value → Bytes
then_value value = 32 ∷ value_text value

abbrev pub then_title : Column → Bytes
then_title column = 32 ∷ column_title column

-- the titles of numbers, and then those of columns
unfoldable pub titles_line : List Cell → List Column → Bytes
titles_line cells columns = cells_text cells ++ (flat_map then_title columns ++ 10 ∷ [])

-- numbers, and then the values of a key
unfoldable pub row_line : List Cell → TableKey → Bytes
row_line cells key = cells_text cells ++ (flat_map then_value key ++ 10 ∷ [])

-- a word in a column of a number
abbrev pub number_cell : Number → Bytes → Cell
number_cell number word = record { width = number_width number; word = word }

abbrev pub number_title : Number → Cell
number_title number = number_cell number (number_name number)

abbrev pub value_cell : Sums → Number → Cell
value_cell sums number = number_cell number (decimal (number_by number sums))

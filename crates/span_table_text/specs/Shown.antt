-- Which rows of a table are shown.
use Rattle.std.specs.{List.{list_all, list_any, starts_with}, Option.option_map_or, Prelude.{◌==◌, length, Bool, false, not, ◌&&◌, ◌||◌, nat_eq, List, [], ◌∷◌, filter, option_and_then}}
use Rattle.span_table_text.specs.{as_text, Bytes, Row, Value, TableKey}

-- what a text that is shown must have, and what it must not have
pub record Wanted : Type 0 where
  pub only : List Bytes
  pub skip : List Bytes

-- the bytes stand somewhere in the text
abbrev pub has_bytes : Bytes → Bytes → Bool
has_bytes bytes [] = starts_with nat_eq [] bytes
has_bytes bytes (b ∷ text) = starts_with nat_eq (b ∷ text) bytes || has_bytes bytes text

-- the value is a text that has these bytes
abbrev pub value_has : Bytes → Value → Bool
value_has bytes value = option_map_or (has_bytes bytes) (option_and_then as_text value) false

-- some text of the key has these bytes
abbrev pub key_has : TableKey → Bytes → Bool
key_has key bytes = list_any (value_has bytes) key

-- the texts of the key have all that is wanted, and nothing that is to be skipped
abbrev pub is_wanted : Wanted → TableKey → Bool
is_wanted wanted key = list_all (key_has key) wanted.only && not (list_any (key_has key) wanted.skip)

-- the rows that are shown
abbrev pub shown_rows : Wanted → List Row → List Row
shown_rows wanted rows = filter (λ (row : Row). is_wanted wanted row.key) rows

-- all rows are shown
abbrev pub wants_all : Wanted → Bool
wants_all wanted = (length wanted.only == 0) && (length wanted.skip == 0)

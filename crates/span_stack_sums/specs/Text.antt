-- The text of stacks that were added.
use Rattle.std.specs.Prelude.{◌≡◌, ℕ, ◌-◌, ◌≤◌, List, [], ◌∷◌, ◌++◌, codes, decimal, flat_map, length, sum_by, Some}
use Rattle.span_stack_sums.specs.{Bytes, Row, TableKey, Value, Words, frame, most_names}

-- a name or a label as a frame: `-` where there is none
abbrev pub value_frame : Value → Bytes
value_frame (Some (Words text)) = frame text
value_frame value = codes "-"

-- the frames of a stack, separated by `;`
abbrev pub key_frames : TableKey → Bytes
key_frames [] = []
key_frames (value ∷ values) = value_frame value ++ flat_map (λ v. 59 ∷ value_frame v) values

-- the line of a stack: its frames, a blank, and how many ticks have it
abbrev pub row_line : Row → Bytes
row_line row = key_frames row.key ++ (32 ∷ (decimal row.sums.total ++ 10 ∷ []))

abbrev pub lines_of : List Row → Bytes
lines_of rows = flat_map row_line rows

-- how many labels stacks have, as many of each as it is deep; the names of its process and its thread are none
abbrev pub labels_in : List Row → ℕ
labels_in rows = sum_by (λ (row : Row). length row.key - 2) rows

-- stacks with no more labels than those of one run may have, and their text
pub record IsTextOf (rows : List Row) (text : Bytes) : Type 0 where
  pub few : labels_in rows ≤ most_names
  pub lines : text ≡ lines_of rows

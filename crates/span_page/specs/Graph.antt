-- The graph of the runs of a page: their stacks, added.
use Rattle.std.specs.Prelude.{ℕ, nat_le, ◌&&◌, if◌then◌else◌, List, [], codes, length, map, sum_by, Some}
use Rattle.span_page.specs.{Bytes, Folded, Row, Stack, Value, Words, labels_in, most_names, Coded.{Coded, coded_after}, Data.{most_frames, stacks_json}}

-- a name or a label as a frame: `-` where there is none
abbrev pub value_label : Value → Bytes
value_label (Some (Words text)) = text
value_label value = codes "-"

-- a row as a stack: the names of its process and its thread, and its labels
abbrev pub folded_row : Row → Folded
folded_row row = record { stack = map value_label row.key; time = row.sums.total }

-- how many frames the graph of stacks has that stand behind another: of each those that the one before it doesn't have
abbrev pub frames_after : Stack → List Folded → ℕ
frames_after before stacks = sum_by (λ (c : Coded). length c.others) (coded_after before stacks)

-- the stacks of rows, if they have no more labels than those of one run may have, and their graph has no more frames than all of a page;
-- and else nothing
abbrev pub rows_json : List Row → List ℕ
rows_json rows =
    if nat_le (labels_in rows) most_names && nat_le (frames_after [] (map folded_row rows)) most_frames then stacks_json (map folded_row rows) else codes "null"

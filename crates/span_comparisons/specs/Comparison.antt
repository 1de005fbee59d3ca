-- The text of a comparison.
use Rattle.std.specs.{Ordering.{match_ordering, nat_cmp}, Prelude.{ℕ, ◌-◌, ◌==◌, if◌then◌else◌, Bool, true, not, List, [], ◌∷◌, ◌++◌, filter, flat_map, length, Option, codes, decimal}}
use Rattle.span_comparisons.specs.{Bytes, Unit, CountRow, count_line, first_line, line_of, seals_line, unit_line, TableCounts, Number, People, Points, are_same, is_time, number_by, number_name, usual_numbers, Schema, runs_line, shown_line, Cell, number_cell, row_line, titles_line, Wanted, SpanTable, Changes.{Change, changes_of, compared, same_count, shown_changes}, First.first_lines, declared.changes.Both.Both}

-- the head of the base but for its first line: each line has the word before it
abbrev pub base_lines : CountRow → Bytes
base_lines entries = codes "base " ++ (count_line entries ++ (if entries.seals == 0 then [] else codes "base " ++ seals_line entries.seals))

-- the head of the other but for its first line
abbrev pub other_lines : CountRow → Bytes
other_lines entries = count_line entries ++ seals_line entries.seals

-- how many runs the base has, where that is said
abbrev pub base_runs_line : Bool → TableCounts → Bytes
base_runs_line says_runs counts = if says_runs then codes "base " ++ runs_line true counts else []

-- both heads but for their first line
unfoldable pub compared_heads : Bool → TableCounts → TableCounts → Bytes
compared_heads says_runs base other =
    base_lines base.entries ++ (base_runs_line says_runs base ++ (other_lines other.entries ++ runs_line says_runs other))

-- the number is a count that is shown; of the usual numbers points aren't
abbrev pub is_shown_count : Bool → Number → Bool
is_shown_count usual Points = not usual
is_shown_count usual number = not (is_time number)

-- the numbers that are shown: the times of a schema in their order, and behind them its counts, without points where its numbers are the usual ones for people
abbrev pub compared_numbers : Schema → List Number
compared_numbers schema = let usual = are_same schema.numbers (usual_numbers People schema.of) in
    filter is_time schema.numbers ++ filter (is_shown_count usual) schema.numbers

-- the titles of a number: how it differs, if it is a time, and what both sides have
abbrev pub changed_titles : Number → List Cell
changed_titles number =
    (if is_time number then number_cell number (codes "d" ++ number_name number) ∷ [] else [])
    ++ number_cell number (number_name number ++ codes "0") ∷ number_cell number (number_name number ++ codes "1") ∷ []

-- the names of the columns
abbrev pub change_columns : Schema → Bytes
change_columns schema = titles_line (flat_map changed_titles (compared_numbers schema)) schema.columns

-- how much more the other has, with `+`, or how much less, with `-`
abbrev pub difference_text : ℕ → ℕ → Bytes
difference_text base other = match_ordering (nat_cmp base other) (codes "+" ++ decimal (other - base)) (codes "0") (codes "-" ++ decimal (base - other))

-- a number on both sides, after how it differs, if it is a time
abbrev pub changed_cells : Both → Number → List Cell
changed_cells both number =
    let base = number_by number both.base in let other = number_by number both.other in
    (if is_time number then number_cell number (difference_text base other) ∷ [] else [])
    ++ number_cell number (decimal base) ∷ number_cell number (decimal other) ∷ []

-- a line with these numbers of a change
abbrev pub numbers_line : List Number → Change → Bytes
numbers_line numbers change = row_line (flat_map (changed_cells change.both) numbers) change.key

-- the line of a change
abbrev pub change_line : Schema → Change → Bytes
change_line schema change = numbers_line (compared_numbers schema) change

-- how many keys did not change
unfoldable pub same_line : ℕ → Bytes
same_line count = line_of (codes "same" ∷ decimal count ∷ [])

-- the unit where it isn't microseconds, both heads, how many keys are shown, the names of the columns, a line for each of the first changes, how many more there are, and then how many keys did not change
abbrev pub comparison_of : Unit → Number → Option ℕ → Wanted → Bool → SpanTable → SpanTable → Bytes
comparison_of unit by most wanted says_runs base other =
    let all = compared base.rows other.rows in
    let shown = shown_changes wanted all in
    let schema = other.schema in
    first_line ++ (unit_line unit ++ (compared_heads says_runs base.counts other.counts ++ (shown_line wanted (length shown) (length all) ++
    (change_columns schema ++ (first_lines (change_line schema) most (changes_of by schema.numbers shown) ++ same_line (same_count shown))))))

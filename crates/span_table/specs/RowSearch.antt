-- What the rows of a table have under a key, and where it is looked for.
use Rattle.std.specs.{List.find, Option.option_map_or, Ordering.{is_eq, is_lt}, Prelude.{ℕ, ◌-◌, ◌==◌, Bool, List, ◌||◌, slice_get, Option}, declared.cmp.Ordering.{Ordering, TheVariants.Greater}}
use Rattle.span_table.specs.{steps_at, Adding.keyed_rows, Keys.{TableKey, key_cmp}, Tables.sums_together, declared.{sums.Sums.Sums, table.Row.Row}}

-- the sums that rows have under a key; zeros where none has it
abbrev pub sums_at : List Row → TableKey → Sums
sums_at rows key = sums_together (steps_at key_cmp key (keyed_rows rows))

-- the row with this key, if there is one
abbrev pub found_at : List Row → TableKey → Option Row
found_at rows key = find (λ (row : Row). is_eq (key_cmp row.key key)) rows

-- how the key of the row at a place compares with a key; behind all rows keys are greater
abbrev pub order_at : List Row → ℕ → TableKey → Ordering
order_at rows place key = option_map_or (λ (row : Row). key_cmp row.key key) (slice_get rows place) Greater

-- the row before a place, if there is one, has a lesser key
abbrev pub is_behind : List Row → ℕ → TableKey → Bool
is_behind rows place key = (place == 0) || is_lt (order_at rows (place - 1) key)

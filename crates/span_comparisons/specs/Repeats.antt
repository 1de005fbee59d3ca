-- The texts of repeated runs: for people, and for machines.
use Rattle.std.specs.{List.list_all, Prelude.{ℕ, ◌^◌, nat_lt, Bool, true, ◌&&◌, List, [], ◌∷◌, ◌++◌, flat_map, length, map, Option, codes, decimal}}
use Rattle.json.specs.Token as token
use Rattle.span_comparisons.specs.{Bytes, Unit, first_line, line_of, unit_line, Column, TableCounts, Number, TableKey, shown_line, Cell, row_line, titles_line, Wanted, Schema, SpanTable, counts_together, usual_schema, key_tokens, token_line, Comparison.{compared_heads, difference_text}, First.first_lines, JsonChanges.{heads_fit, json_heads}, Spreads.{Spreads, all_keys, apart_spreads, overlap_count, same_spread_count, shown_keys, shown_spreads, values_at}}

-- the counts of a side's repetitions added
abbrev pub side_counts : List SpanTable → TableCounts
side_counts tables = counts_together (map (λ (table : SpanTable). table.counts) tables)

-- a word in a wide column
abbrev pub wide : Bytes → Cell
wide word = record { width = 16; word = word }

-- the titles of the spreads of both sides
abbrev pub spread_titles : List Bytes
spread_titles = codes "dmedian" ∷ codes "median0" ∷ codes "median1" ∷ codes "least0" ∷ codes "greatest0" ∷ codes "least1" ∷ codes "greatest1" ∷ []

-- the names of the columns
abbrev pub spread_columns : List Column → Bytes
spread_columns columns = titles_line (map wide spread_titles) columns

-- the spreads of both sides, after how the medians differ
abbrev pub spread_words : Spreads → List Bytes
spread_words s = let base = s.base in let other = s.other in
    difference_text base.median other.median ∷ decimal base.median ∷ decimal other.median ∷ decimal base.least ∷ decimal base.greatest ∷ decimal other.least ∷ decimal other.greatest ∷ []

-- the line of a key whose sides are apart
abbrev pub spread_line : Spreads → Bytes
spread_line s = row_line (map wide (spread_words s)) s.key

-- how many keys are not apart
unfoldable pub overlap_line : ℕ → ℕ → Bytes
overlap_line overlap same = line_of (codes "overlap" ∷ decimal overlap ∷ codes "same" ∷ decimal same ∷ [])

-- the heads as in a comparison, how many keys are shown, the names of the columns, a line for each of the first keys whose sides are apart, how many more there are, and how many are not
abbrev pub repeats_of : Unit → Number → Option ℕ → Wanted → List Column → List SpanTable → List SpanTable → Bytes
repeats_of unit by most wanted columns base other =
    let shown = shown_spreads by wanted base other in
    first_line ++ (unit_line unit ++ (compared_heads true (side_counts base) (side_counts other) ++ (shown_line wanted (length shown) (length (all_keys (base ++ other))) ++
    (spread_columns columns ++ (first_lines spread_line most (apart_spreads shown) ++ overlap_line (overlap_count shown) (same_spread_count shown))))))

-- the values of a side, in the order of its repetitions
abbrev pub values_tokens : Bytes → List ℕ → List token.Token
values_tokens name values = token.key name ∷ token.begin_array ∷ (map (λ value. token.number (decimal value)) values ++ token.end_array ∷ [])

-- the line of a key with its values on both sides, for machines
unfoldable pub json_values : List Column → TableKey → List ℕ → List ℕ → Bytes
json_values columns key base other =
    token_line (token.begin_object ∷ (key_tokens columns key ++ (values_tokens (codes "values0") base ++ (values_tokens (codes "values1") other ++ token.end_object ∷ []))))

abbrev pub json_values_at : Number → List Column → List SpanTable → List SpanTable → TableKey → Bytes
json_values_at by columns base other key = json_values columns key (values_at by base key) (values_at by other key)

-- the first line as of a comparison of the usual numbers, and then one for each key that is shown, in ascending order
abbrev pub json_repeats_of : Unit → Number → Wanted → Schema → List SpanTable → List SpanTable → Bytes
json_repeats_of unit by wanted schema base other =
    let keys = shown_keys wanted (base ++ other) in
    let first = usual_schema schema.of schema.columns in
    json_heads first unit (length keys) (same_spread_count (shown_spreads by wanted base other)) (side_counts base) (side_counts other) ++ flat_map (json_values_at by schema.columns base other) keys

-- all of the values have 64 bits
abbrev pub values_fit : List ℕ → Bool
values_fit values = list_all (λ value. nat_lt value (2 ^ 64)) values

-- those of both sides
abbrev pub key_fits : Number → List SpanTable → List SpanTable → TableKey → Bool
key_fits by base other key = values_fit (values_at by base key) && values_fit (values_at by other key)

-- the numbers of the first line, and all values of the keys that are shown, have 64 bits
abbrev pub json_repeats_fit : Number → Wanted → List SpanTable → List SpanTable → Bool
json_repeats_fit by wanted base other =
    heads_fit (same_spread_count (shown_spreads by wanted base other)) (side_counts base) (side_counts other) && list_all (key_fits by base other) (shown_keys wanted (base ++ other))

-- What differs between two tables for machines: JSON Lines.
use Rattle.std.specs.{List.list_all, Prelude.{ℕ, ◌^◌, nat_lt, Bool, ◌&&◌, List, [], ◌∷◌, ◌++◌, flat_map, length, codes}}
use Rattle.json.specs.Token.{Token, begin_object, end_object, key}
use Rattle.span_comparisons.specs.{Bytes, Unit, Number, TableCounts, fit, number_by, number_name, Wanted, Schema, SpanTable, counts_fit, counts_tokens, key_tokens, number_tokens, start_tokens, token_line, Changes.{Change, changes_of, compared, same_count, shown_changes}, declared.changes.Both.Both}

-- these numbers of both sides
abbrev pub both_tokens : List Number → Both → List Token
both_tokens numbers both =
    flat_map (λ n. number_tokens (number_name n ++ codes "0") (number_by n both.base) ++ number_tokens (number_name n ++ codes "1") (number_by n both.other)) numbers

-- the line of a change
unfoldable pub json_change : Schema → Change → Bytes
json_change schema change = token_line (begin_object ∷ (key_tokens schema.columns change.key ++ (both_tokens schema.numbers change.both ++ end_object ∷ [])))

-- the counts of a side
abbrev pub side_tokens : Bytes → TableCounts → List Token
side_tokens name counts = key name ∷ begin_object ∷ (counts_tokens counts ++ end_object ∷ [])

-- how many rows there are, how many keys are the same, and the counts of both sides
abbrev pub both_counts_tokens : ℕ → ℕ → TableCounts → TableCounts → List Token
both_counts_tokens rows same base other =
    number_tokens (codes "rows") rows ++ (number_tokens (codes "same") same ++ (side_tokens (codes "base") base ++ side_tokens (codes "other") other))

-- the first line of a comparison
unfoldable pub json_heads : Schema → Unit → ℕ → ℕ → TableCounts → TableCounts → Bytes
json_heads schema unit rows same base other = token_line (start_tokens schema unit (both_counts_tokens rows same base other ++ end_object ∷ []))

-- the changes that are shown, in the order of a comparison
abbrev pub json_changes_of : Number → Wanted → SpanTable → SpanTable → List Change
json_changes_of by wanted base other = changes_of by other.schema.numbers (shown_changes wanted (compared base.rows other.rows))

-- how many keys that are shown have the same numbers in both
abbrev pub json_same_count : Wanted → SpanTable → SpanTable → ℕ
json_same_count wanted base other = same_count (shown_changes wanted (compared base.rows other.rows))

-- the first line, and then one for each of these
abbrev pub json_comparison_of : Unit → Number → Wanted → SpanTable → SpanTable → Bytes
json_comparison_of unit by wanted base other =
    let changes = json_changes_of by wanted base other in
    json_heads other.schema unit (length changes) (json_same_count wanted base other) base.counts other.counts ++ flat_map (json_change other.schema) changes

-- both sums have 64 bits
abbrev pub both_fit : Change → Bool
both_fit change = fit change.both.base && fit change.both.other

-- the numbers of a first line have 64 bits
abbrev pub heads_fit : ℕ → TableCounts → TableCounts → Bool
heads_fit same base other = nat_lt same (2 ^ 64) && (counts_fit base && counts_fit other)

-- they do, and so do all sums of the changes that are shown
abbrev pub json_changes_fit : Number → Wanted → SpanTable → SpanTable → Bool
json_changes_fit by wanted base other = heads_fit (json_same_count wanted base other) base.counts other.counts && list_all both_fit (json_changes_of by wanted base other)

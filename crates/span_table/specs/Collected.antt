-- How the sums of a table are collected: row by row of a ledger's names or asynchronous keys, or span by span.
use Rattle.std.specs.{List.list_any, Map.lookup, Option.option_and_then, Ordering.eq_by_cmp, Prelude.{◌≡◌, ◌||◌, ℕ, Bool, true, false, List, [], ◌++◌, map, slice_get, unwrap_or, Option, Some, None}}
use Rattle.span_table.specs.{Bytes, Keyed, Span, SpanRow, is_outer, parent_of, thread_of_span, span_rows, Columns.{Called, Run, is_argument, is_of_parent, value_at}, Keys.{TableKey, key_cmp}, Numbers.asks_each, Sums.sums_of_row, Tables.{KeyedSums, SumsByKey, summed}, declared.{column.Column.Column, number.Number.Number, sums.Sums.Sums}}

-- the column asks a span for more than its name
abbrev pub asks_spans : Column → Bool
asks_spans column = is_argument column || is_of_parent column

-- spans are asked for more than their names: by a column, or for a number
abbrev pub asks_each_span : List Column → List Number → Bool
asks_each_span columns numbers = list_any asks_spans columns || list_any asks_each numbers

-- what is kept of some sums becomes what is kept of them and more
pub record Takes (old new : SumsByKey) (more : KeyedSums) : Type 0 where
  pub sums : (sums : KeyedSums) → old ≡ summed sums → new ≡ summed (sums ++ more)

-- the span at a place, if there is one
abbrev pub span_at : List (Span Bytes) → Option ℕ → Option (Span Bytes)
span_at spans place = option_and_then (slice_get spans) place

-- what stands at a place of some places, if there is one
abbrev pub place_at : List (Option ℕ) → ℕ → Option ℕ
place_at places at = option_and_then (λ place. place) (slice_get places at)

-- the places are those of the parents of the spans, if a column asks for them
abbrev pub KnowParents : List Column → List (Span Bytes) → List (Option ℕ) → Type 0
KnowParents columns spans places = list_any is_of_parent columns ≡ true → map (span_at spans) places ≡ map (parent_of spans) spans

-- whether the span at a place is outer, as far as that is known
abbrev pub outer_at : List Bool → ℕ → Bool
outer_at outer place = unwrap_or (slice_get outer place) false

-- which of the spans of a thread are outer, if that is asked for
abbrev pub KnowOuter : Bool → List (Span Bytes) → List Bool → Type 0
KnowOuter asked spans outer = asked ≡ true → outer ≡ map (is_outer spans) spans

-- what has this name, and no arguments
abbrev pub named_alone : Bytes → Called
named_alone name = record { name = name; args = [] }

-- a row of a thread's names, under the key that its spans have
abbrev pub keyed_span_row : List Column → Run → SpanRow → Keyed TableKey Sums
keyed_span_row columns run row = record { key = map (value_at run (thread_of_span row) (named_alone row.name) None) columns; step = sums_of_row row }

-- all of them
abbrev pub row_sums : List Column → Run → KeyedSums
row_sums columns run = map (keyed_span_row columns run) (span_rows run.journal)

-- what stands at a place is kept of the key; where nothing does, nothing is kept of it
abbrev pub IsKeptAs : SumsByKey → TableKey → Option (TableKey × Sums) → Type 0
IsKeptAs kept key (Some entry) = (entry.0 ≡ key) × (lookup (eq_by_cmp key_cmp key) kept ≡ Some entry.1)
IsKeptAs kept key None = lookup (eq_by_cmp key_cmp key) kept ≡ None

-- this is the place of the key, or there is none
abbrev pub IsPlaceOf : SumsByKey → TableKey → ℕ → Type 0
IsPlaceOf kept key place = IsKeptAs kept key (slice_get kept place)

-- A table that is narrowed: templates are merged, only rows of which all conditions hold stay, and the conditions' columns are dropped.
use Rattle.std.specs.{Option.option_map, Prelude.{ℕ, ◌-◌, ◌==◌, Bool, true, false, not, ◌&&◌, if◌then◌else◌, List, [], ◌∷◌, ◌++◌, Option, Some, None, drop, filter_map, length, map, take}}
use Rattle.template_names.specs.Merged.{merged}
use Rattle.span_narrowing.specs.{Argument, Column, Keyed, KeyedSums, Name, ParentArgument, ParentName, Schema, SpanTable, Sums, TableKey, Value, Words, keyed_rows, rows_of, Conditions.all_hold, declared.{conditions.Condition.Condition, narrowing.Narrowing.Narrowing}}

-- without conditions, and where nothing is merged
abbrev pub is_plain : Narrowing → Bool
is_plain narrowing = (length narrowing.conditions.items == 0) && not narrowing.merges

-- the columns of a table that is to be narrowed: those that are shown, and behind them that of each condition
abbrev pub summed_by : List Column → Narrowing → List Column
summed_by columns narrowing = columns ++ map (λ (condition : Condition). condition.column) narrowing.conditions.items

-- the schema of a table that is to be narrowed to one of this
abbrev pub summed_schema : Schema → Narrowing → Schema
summed_schema schema narrowing = record { of = schema.of; columns = summed_by schema.columns narrowing; numbers = schema.numbers }

-- how many of a list there are before those of the conditions, which are the last ones
abbrev pub shown_of : {A : Type 0} → List Condition → List A → ℕ
shown_of conditions list = length list - length conditions

-- templates may stand in texts of the column
abbrev pub has_templates : Column → Bool
has_templates Name = true
has_templates (Argument key) = true
has_templates ParentName = true
has_templates (ParentArgument key) = true
has_templates column = false

abbrev pub with_merged_text : Value → Value
with_merged_text (Some (Words text)) = Some (Words (merged text))
with_merged_text value = value

abbrev pub merged_value : Column → Value → Value
merged_value column value = if has_templates column then with_merged_text value else value

-- each value of the column at its place
abbrev pub merged_values : List Column → TableKey → TableKey
merged_values [] values = []
merged_values (column ∷ columns) [] = []
merged_values (column ∷ columns) (value ∷ values) = merged_value column value ∷ merged_values columns values

-- the values before those of the conditions, if all of these hold
abbrev pub kept_key : List Condition → TableKey → Option TableKey
kept_key conditions key =
    let shown = shown_of conditions key in
    if all_hold conditions (drop shown key) then Some (take shown key) else None

-- the key of a row of a table by these columns, once it is narrowed
abbrev pub narrowed_key : Narrowing → List Column → TableKey → Option TableKey
narrowed_key narrowing columns key = kept_key narrowing.conditions.items (if narrowing.merges then merged_values columns key else key)

-- sums under the narrowed key
abbrev pub narrowed_sums : Narrowing → List Column → Keyed TableKey Sums → Option (Keyed TableKey Sums)
narrowed_sums narrowing columns own = option_map (λ key. record { key = key; step = own.step }) (narrowed_key narrowing columns own.key)

-- a schema with the columns that are shown
abbrev pub shown_schema : Narrowing → Schema → Schema
shown_schema narrowing schema = record { of = schema.of; columns = take (shown_of narrowing.conditions.items schema.columns) schema.columns; numbers = schema.numbers }

-- the table by the columns that are shown, with these sums in place of its rows
abbrev pub shown_with : Narrowing → SpanTable → KeyedSums → SpanTable
shown_with narrowing table sums = record {
  schema = shown_schema narrowing table.schema;
  counts = table.counts;
  rows = rows_of sums;
}

-- rows whose keys are then the same are added
unfoldable pub narrowed : Narrowing → SpanTable → SpanTable
narrowed narrowing table = shown_with narrowing table (filter_map (narrowed_sums narrowing table.schema.columns) (keyed_rows table.rows))

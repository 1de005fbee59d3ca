-- A narrowed table has rows that a table may have, if the table that is narrowed has.
use Rattle.std.specs.{List.cons_option, Option.option_map, Prelude.{filter_map, drop}}
use Rattle.std.proofs.{Common.{◌≡◌, ◌∙◌, ◌-◌, ℕ, zero, suc, Bool, true, false, cond, List, [], ◌∷◌, ◌++◌, All, Option, Some, None, ap, ap₂, arith, length, map, refl, subst, sym, take}, lemmas.List.{length-append, length-map, take-append-le, take_all, Elements.{All-cons, All-head, All-map, All-nil, All-tail}}}
use Rattle.span_table_text.specs.Printed.{IsOfArgument, MayHave}
use Rattle.span_table_text.proofs.RunTables.{HasRows, HasRows-rows_of, MayBeKey, Suits, row_sums}
use Rattle.template_names.specs.Merged.{merged}
use Rattle.span_narrowing.specs.{Bytes, Nil, Flag, Whole, Words, Other, Column, Keyed, KeyedSums, Schema, SpanTable, Sums, TableKey, Value, keyed_rows, Conditions.all_hold, Narrowed.{kept_key, merged_value, merged_values, narrowed, narrowed_key, narrowed_sums, shown_of, shown_schema, summed_schema, with_merged_text}, declared.{conditions.Condition.Condition, narrowing.Narrowing.Narrowing}}
use Rattle.span_table.specs.declared.column.Column.TheVariants as each

-- a column that may have any text may have a merged one
with_merged_text-may : (column : Column) → ((text : Bytes) → MayHave column (Some (Words text))) → (value : Value) → (IsOfArgument value → MayHave column value) → IsOfArgument (with_merged_text value) → MayHave column (with_merged_text value)
with_merged_text-may column words (Some (Words text)) may = λ fits. words (merged text)
with_merged_text-may column words value may = may

merged_value-may : (column : Column) (value : Value) → (IsOfArgument value → MayHave column value) → IsOfArgument (merged_value column value) → MayHave column (merged_value column value)
merged_value-may each.Name value may = with_merged_text-may each.Name (λ text. tt) value may
merged_value-may (each.Argument key) value may = with_merged_text-may (each.Argument key) (λ text. tt) value may
merged_value-may each.ParentName value may = with_merged_text-may each.ParentName (λ text. tt) value may
merged_value-may (each.ParentArgument key) value may = with_merged_text-may (each.ParentArgument key) (λ text. tt) value may
merged_value-may column value may = may

merged_values-may : (columns : List Column) (key : TableKey) → MayBeKey columns key → MayBeKey columns (merged_values columns key)
merged_values-may [] [] may = tt
merged_values-may [] (value ∷ key) may = absurd may
merged_values-may (column ∷ columns) [] may = absurd may
merged_values-may (column ∷ columns) (value ∷ key) may = (merged_value-may column value may.0, merged_values-may columns key may.1)

-- there is a value for each column
length-may : (columns : List Column) (key : TableKey) → MayBeKey columns key → length key ≡ length columns
length-may [] [] may = refl
length-may [] (value ∷ key) may = absurd may
length-may (column ∷ columns) [] may = absurd may
length-may (column ∷ columns) (value ∷ key) may = ap suc (length-may columns key may.1)

take-may : (n : ℕ) (columns : List Column) (key : TableKey) → MayBeKey columns key → MayBeKey (take n columns) (take n key)
take-may zero columns key may = tt
take-may (suc n) [] [] may = tt
take-may (suc n) [] (value ∷ key) may = absurd may
take-may (suc n) (column ∷ columns) [] may = absurd may
take-may (suc n) (column ∷ columns) (value ∷ key) may = (may.0, take-may n columns key may.1)

kept_key-may : (conditions : List Condition) (columns : List Column) (key found : TableKey) → MayBeKey columns key → kept_key conditions key ≡ Some found → MayBeKey (take (shown_of conditions columns) columns) found
kept_key-may conditions columns key found may kept = by (all_hold conditions (drop (shown_of conditions key) key)) kept
  where
    by : (b : Bool) → cond b (Some (take (shown_of conditions key) key)) None ≡ Some found → MayBeKey (take (shown_of conditions columns) columns) found
    by true e =
        let same : take (shown_of conditions key) key ≡ found = cc in
        subst (MayBeKey (take (shown_of conditions columns) columns)) (ap (λ n. take (n - length conditions) key) (sym (length-may columns key may)) ∙ same) (take-may (shown_of conditions columns) columns key may)
    by false e = absurd cc

narrowed_key-may : (narrowing : Narrowing) (columns : List Column) (key found : TableKey) → MayBeKey columns key → narrowed_key narrowing columns key ≡ Some found → MayBeKey (take (shown_of narrowing.conditions.items columns) columns) found
narrowed_key-may narrowing columns key found may kept = by narrowing.merges kept
  where
    by : (b : Bool) → kept_key narrowing.conditions.items (cond b (merged_values columns key) key) ≡ Some found → MayBeKey (take (shown_of narrowing.conditions.items columns) columns) found
    by true e = kept_key-may narrowing.conditions.items columns (merged_values columns key) found (merged_values-may columns key may) e
    by false e = kept_key-may narrowing.conditions.items columns key found may e

module _ (narrowing : Narrowing) (schema : Schema) where
  abbrev shown : Schema
  shown = shown_schema narrowing schema

  -- sums that suit a table suit it once they are narrowed
  narrowed_sums-Suits : (sums : KeyedSums) → All (Suits schema) sums → All (Suits shown) (filter_map (narrowed_sums narrowing schema.columns) sums)
  narrowed_sums-Suits [] all = All-nil (Suits shown)
  narrowed_sums-Suits (own ∷ sums) all =
      by (narrowed_key narrowing schema.columns own.key) refl (All-head (Suits schema) own sums all) (narrowed_sums-Suits sums (All-tail (Suits schema) own sums all))
    where
      by : (found : Option TableKey) → narrowed_key narrowing schema.columns own.key ≡ found → Suits schema own → All (Suits shown) (filter_map (narrowed_sums narrowing schema.columns) sums) →
          All (Suits shown) (cons_option (option_map (λ (key : TableKey). record { key = key; step = own.step }) found) (filter_map (narrowed_sums narrowing schema.columns) sums))
      by None e suits rest = rest
      by (Some key) e suits rest =
          All-cons (Suits shown) (record { key = key; step = own.step }) (filter_map (narrowed_sums narrowing schema.columns) sums)
          (record { key = narrowed_key-may narrowing schema.columns own.key key suits.key e; own = suits.own; some = suits.some }) rest

pub HasRows-narrowed : (narrowing : Narrowing) (table : SpanTable) → HasRows table → HasRows (narrowed narrowing table)
unfolding narrowed
HasRows-narrowed narrowing table has =
    HasRows-rows_of (narrowed narrowing table) (filter_map (narrowed_sums narrowing table.schema.columns) (keyed_rows table.rows)) refl
    (narrowed_sums-Suits narrowing table.schema (keyed_rows table.rows) (All-map (Suits table.schema) row_sums table.rows has.each))

-- what is narrowed of a table by some columns and those of conditions is by these
pub narrowed-schema : (narrowing : Narrowing) (schema : Schema) (table : SpanTable) → table.schema ≡ summed_schema schema narrowing → (narrowed narrowing table).schema ≡ schema
unfolding narrowed
narrowed-schema narrowing schema table by =
    let columns = schema.columns in
    let conditions = narrowing.conditions.items in
    let tested = map (λ (condition : Condition). condition.column) conditions in
    let few : length (columns ++ tested) - length conditions ≡ length columns = omega (arith, length-append columns tested, length-map conditions (λ (condition : Condition). condition.column)) in
    let kept : take (shown_of conditions (columns ++ tested)) (columns ++ tested) ≡ columns =
    ap (λ n. take n (columns ++ tested)) few ∙ take-append-le (length columns) columns tested (omega arith) ∙ take_all (length columns) columns (omega arith) in
    ap (shown_schema narrowing) by ∙ (λ i. record { of = schema.of; columns = kept i; numbers = schema.numbers })

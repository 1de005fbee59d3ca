-- What is printed of a sum of parts is a part.
use Rattle.std.specs.{List.cons_option, Prelude.{All, slice_get}}
use Rattle.std.proofs.{Common.{◌≡◌, ℕ, zero, suc, List, [], ◌∷◌, arith, flat_map, get_or, map, refl, subst, sym}, lemmas.List.Elements.{All-cons, All-head, All-map, All-nil, All-tail}}
use Rattle.span_table.proofs.{Numbers.AreAmong-trans, Only.only-again}
use Rattle.span_table_text.proofs.RunTables.{All-flat_map, HasRows, HasRows-rows_of, HasRows-shown, IsPart-print, MayBeKey-is, Suits, counted-only, row_sums}
use Rattle.span_parts.specs.{Bytes, Unit as TimeUnit, Column, Row, TableKey, AreAmong, Choice, add_tables, chosen_from, keyed_by, keyed_rows, picked, schema_by, IsKeyOf, IsRowOf, IsSchema, IsTable, Schema, SpanTable, counts_of, shown_table, Sum.{AreParts, PartSum, SumsAreParts, SumsParts}}

-- a value that may be in its column, before a key
cons-key : (columns : List Column) (key : TableKey) (place : ℕ) (more : List Column) (rest : TableKey) → IsKeyOf columns key → IsKeyOf more rest →
    IsKeyOf (cons_option (slice_get columns place) more) (cons_option (slice_get key place) rest)
cons-key [] [] place more rest is its = its
cons-key [] (value ∷ key) place more rest is its = absurd is
cons-key (column ∷ columns) [] place more rest is its = absurd is
cons-key (column ∷ columns) (value ∷ key) zero more rest is its = (is.0, its)
cons-key (column ∷ columns) (value ∷ key) (suc place) more rest is its = cons-key columns key place more rest is.1 its

-- what a key has at some places is a key by the columns there
IsKeyOf-picked : (places : List ℕ) (columns : List Column) (key : TableKey) → IsKeyOf columns key → IsKeyOf (picked places columns) (picked places key)
IsKeyOf-picked [] columns key is = tt
IsKeyOf-picked (place ∷ places) columns key is = cons-key columns key place (picked places columns) (picked places key) is (IsKeyOf-picked places columns key is)

-- what is chosen of a row that a table may have suits a table with what is chosen
chosen-Suits : (choice : Choice) (schema : Schema) (row : Row) → AreAmong choice.numbers schema.numbers → IsRowOf schema row → Suits (schema_by choice schema) (keyed_by choice row)
chosen-Suits choice schema row among is = record {
  key = MayBeKey-is (picked choice.places schema.columns) _ (IsKeyOf-picked choice.places schema.columns _ is.key);
  own = sym (only-again choice.numbers row.sums);
  some = λ told.
      let own = is.some (AreAmong-trans (counts_of schema.of) choice.numbers schema.numbers told among) in
      omega (arith, own, counted-only schema.of choice.numbers row.sums told);
}

module _ (unit : TimeUnit) (schema : Schema) (choice : Choice) (among : AreAmong choice.numbers schema.numbers) where
  abbrev Suit : SpanTable → Type 0
  Suit table = All (Suits (schema_by choice schema)) (keyed_rows table.rows)

  -- a part with what is chosen has rows that a table may have
  part-Suits : (part : SpanTable) → IsTable part → part.schema ≡ schema → Suit (chosen_from choice part)
  part-Suits part is same =
      let rows = subst (λ s. All (IsRowOf s) part.rows) same is.rows in
      let table = chosen_from choice part in
      let has = HasRows-rows_of (record { schema = schema_by choice schema; counts = part.counts; rows = table.rows }) (map (keyed_by choice) part.rows) refl
      (All-map (Suits (schema_by choice schema)) (keyed_by choice) part.rows (λ k d low. chosen-Suits choice schema (get_or part.rows k d) among (rows k d low))) in
      All-map (Suits (schema_by choice schema)) row_sums table.rows has.each

  each-Suits : (texts : List Bytes) (parts : List SpanTable) → AreParts unit texts parts → All (λ part. part.schema ≡ schema) parts → All Suit (map (chosen_from choice) parts)
  each-Suits [] [] are same = All-nil Suit
  each-Suits [] (part ∷ parts) are same = absurd are
  each-Suits (text ∷ texts) [] are same = absurd are
  each-Suits (text ∷ texts) (part ∷ parts) are same =
      All-cons Suit (chosen_from choice part) (map (chosen_from choice) parts) (part-Suits part are.0.is (All-head (λ (p : SpanTable). p.schema ≡ schema) part parts same))
      (each-Suits texts parts are.1 (All-tail (λ (p : SpanTable). p.schema ≡ schema) part parts same))

  -- so are those of their sum
  added-HasRows : (texts : List Bytes) (parts : List SpanTable) → AreParts unit texts parts → All (λ part. part.schema ≡ schema) parts → HasRows (add_tables (schema_by choice schema) (map (chosen_from choice) parts))
  added-HasRows texts parts are same =
      let tables = map (chosen_from choice) parts in
      HasRows-rows_of (add_tables (schema_by choice schema) tables) (flat_map (λ (table : SpanTable). keyed_rows table.rows) tables) refl
      (All-flat_map (Suits (schema_by choice schema)) (λ (table : SpanTable). keyed_rows table.rows) tables (each-Suits texts parts are same))

-- a sum of parts has rows that a table may have
pub sum-HasRows : (texts : List Bytes) (sum : PartSum) → AreAmong sum.choice.numbers sum.schema.numbers → SumsParts texts sum → HasRows sum.sum
sum-HasRows texts sum among sums = subst HasRows (sym sums.adds) (added-HasRows sum.unit sum.schema sum.choice among texts sums.parts sums.are sums.schemas)

pub sums-parts : SumsAreParts
sums-parts texts sum wanted text sums among are print =
    let by = subst (λ (table : SpanTable). IsSchema table.schema) (sym sums.adds) are in
    IsPart-print sum.unit text (shown_table wanted sum.sum) by (HasRows-shown wanted sum.sum (sum-HasRows texts sum among sums)) print

-- Tables of runs, by all of their columns or some, that are added: all of their rows, or those that are shown.
use Rattle.std.specs.{List.{cons_option, list_all, list_any}, Prelude.{flat_map, slice_get}}
use Rattle.std.proofs.{Common.{◌≡◌, ◌≢◌, ℕ, zero, suc, ◌<◌, ◌&&◌, ◌||◌, Bool, true, false, cond, not, List, [], ◌∷◌, All, Contains, filter, get_or, length, map, Option, Some, None, refl, sym, ap, ap₂, subst, ◌∙◌, arith}, lemmas.List.Elements.{All-contains, All-head, All-tail}}
use Rattle.span_self_time.proofs.Mapped.{filter-map}
use Rattle.span_table.proofs.AddedTables.{add_tables-table_of, table_of-chosen}
use Rattle.span_table_text.specs.Shown.{is_wanted, value_has}
use Rattle.span_table_text.proofs.{RunTables.table_of-HasWholeKeys, ShownSums.{rows_of-passing, shown_table-added}}
use Rattle.span_parts.specs.{Bytes, Column, Row, Value, column_name, AreAmong, Choice, add_tables, chosen_from, keyed_by, picked, schema_by, rows_of, TableKey, Run, Schema, SpanTable, table_of, AreDistinct, Wanted, shown_table, Sum.AreAt}

either : (a b : Bool) → b ≡ true → (a || b) ≡ true
either true b e = refl
either false b e = e

-- two tests that hold together are the same
both_ways : (a b : Bool) → (a ≡ true → b ≡ true) → (b ≡ true → a ≡ true) → a ≡ b
both_ways true b there back = sym (there refl)
both_ways false true there back = back refl
both_ways false false there back = refl

module _ (p : Value → Bool) where
  any-at : (key : TableKey) (place : ℕ) (value : Value) → slice_get key place ≡ Some value → p value ≡ true → list_any p key ≡ true
  any-at [] place value got passes = absurd cc
  any-at (own ∷ key) zero value got passes = let same : own ≡ value = cc in ap (λ v. p v || list_any p key) same ∙ ap (λ b. b || list_any p key) passes
  any-at (own ∷ key) (suc place) value got passes = let rest : slice_get key place ≡ Some value = cc in either (p own) (list_any p key) (any-at key place value rest passes)

  any-back : (places : List ℕ) (key : TableKey) → list_any p (picked places key) ≡ true → list_any p key ≡ true
  any-back [] key has = absurd cc
  any-back (place ∷ places) key has = by (slice_get key place) refl (any-back places key) has
    where
      own : (value : Value) (b : Bool) → slice_get key place ≡ Some value → p value ≡ b → (list_any p (picked places key) ≡ true → list_any p key ≡ true) → (b || list_any p (picked places key)) ≡ true → list_any p key ≡ true
      own value true got passes rest has = any-at key place value got passes
      own value false got fails rest has = rest has

      by : (found : Option Value) → slice_get key place ≡ found → (list_any p (picked places key) ≡ true → list_any p key ≡ true) → list_any p (cons_option found (picked places key)) ≡ true → list_any p key ≡ true
      by None got rest has = rest has
      by (Some value) got rest has = own value (p value) got refl rest has

  any-among : (places : List ℕ) (key : TableKey) (place : ℕ) (value : Value) → Contains places place → slice_get key place ≡ Some value → p value ≡ true → list_any p (picked places key) ≡ true
  any-among [] key place value (k, low, same) got passes = absurd (omega (arith, low))
  any-among (one ∷ places) key place value (zero, low, same) got passes =
      let here : one ≡ place = cc in
      ap (λ found. list_any p (cons_option found (picked places key))) (ap (slice_get key) here ∙ got) ∙ ap (λ b. b || list_any p (picked places key)) passes
  any-among (one ∷ places) key place value (suc k, low, same) got passes = by (slice_get key one) (any-among places key place value (k, omega (arith, low), cc) got passes)
    where
      by : (found : Option Value) → list_any p (picked places key) ≡ true → list_any p (cons_option found (picked places key)) ≡ true
      by None rest = rest
      by (Some other) rest = either (p other) (list_any p (picked places key)) rest

  -- a value that passes has a place
  abbrev Passing : TableKey → Type 0
  Passing key = (place : ℕ) × (place < length key) × ((value : Value) × (slice_get key place ≡ Some value) × (p value ≡ true))

  any-there : (key : TableKey) → list_any p key ≡ true → Passing key
  any-there [] has = absurd cc
  any-there (own ∷ key) has = by (p own) refl (any-there key) has
    where
      by : (b : Bool) → p own ≡ b → (list_any p key ≡ true → Passing key) → (b || list_any p key) ≡ true → Passing (own ∷ key)
      by true passes rest has = (0, omega arith, (own, refl, passes))
      by false fails rest has = let found = rest has in (suc found.0, omega (arith, found.1), (found.2.0, found.2.1, found.2.2))

  -- some value of a key passes where one of those does that are picked, if each value is
  any-picked : (places : List ℕ) (key : TableKey) → ((place : ℕ) → place < length key → Contains places place) → list_any p (picked places key) ≡ list_any p key
  any-picked places key each =
      both_ways (list_any p (picked places key)) (list_any p key) (any-back places key)
      (λ has. let there = any-there key has in any-among places key there.0 there.2.0 (each there.0 there.1) there.2.1 there.2.2)

-- so what is wanted of it is wanted of them
is_wanted-picked : (wanted : Wanted) (places : List ℕ) (key : TableKey) → ((place : ℕ) → place < length key → Contains places place) → is_wanted wanted (picked places key) ≡ is_wanted wanted key
is_wanted-picked wanted places key each =
    λ i. list_all (λ (bytes : Bytes). any-picked (value_has bytes) places key each i) wanted.only && not (list_any (λ (bytes : Bytes). any-picked (value_has bytes) places key each i) wanted.skip)

-- columns whose names differ have one place each
module _ (columns : List Column) where
  other-name : (column other : Column) (rest : List Column) (place : ℕ) → All (λ name. column_name column ≢ name) (map column_name rest) → slice_get rest place ≡ Some other → column ≡ other → ⊥
  other-name column other [] place all got same = absurd cc
  other-name column other (next ∷ rest) zero all got same =
      let here : next ≡ other = cc in
      All-head (λ name. column_name column ≢ name) (column_name next) (map column_name rest) all (ap column_name (same ∙ sym here))
  other-name column other (next ∷ rest) (suc place) all got same =
      let later : slice_get rest place ≡ Some other = cc in
      other-name column other rest place (All-tail (λ name. column_name column ≢ name) (column_name next) (map column_name rest) all) later same

one_place : (columns : List Column) → AreDistinct (map column_name columns) → (i place : ℕ) (column : Column) → slice_get columns i ≡ Some column → slice_get columns place ≡ Some column → place ≡ i
one_place [] distinct i place column here there = absurd cc
one_place (own ∷ columns) distinct zero zero column here there = refl
one_place (own ∷ columns) distinct zero (suc place) column here there =
    let same : own ≡ column = cc in
    let later : slice_get columns place ≡ Some column = cc in
    absurd (other-name columns own column columns place distinct.0 later same)
one_place (own ∷ columns) distinct (suc i) zero column here there =
    let same : own ≡ column = cc in
    let later : slice_get columns i ≡ Some column = cc in
    absurd (other-name columns own column columns i distinct.0 later same)
one_place (own ∷ columns) distinct (suc i) (suc place) column here there =
    let first : slice_get columns i ≡ Some column = cc in
    let second : slice_get columns place ≡ Some column = cc in
    ap suc (one_place columns distinct.1 i place column first second)

-- a column stands at one of the places of those that it is among
at_place : (places : List ℕ) (wanted columns : List Column) → AreAt places wanted columns → (column : Column) → Contains wanted column → (place : ℕ) × Contains places place × (slice_get columns place ≡ Some column)
at_place places [] columns at column (k, low, same) = absurd (omega (arith, low))
at_place [] (own ∷ wanted) columns at column has = absurd cc
at_place (place ∷ places) (own ∷ wanted) columns at column (zero, low, same) = let here : own ≡ column = cc in (place, (0, omega arith, refl), cc)
at_place (place ∷ places) (own ∷ wanted) columns at column (suc k, low, same) =
    let rest : map (slice_get columns) places ≡ map Some wanted = cc in
    let later = at_place places wanted columns rest column (k, omega (arith, low), cc) in
    (later.0, (suc later.1.0, omega (arith, later.1.1), later.1.2), later.2)

-- where no column is dropped, each of their places is among them
each_place : (places : List ℕ) (wanted columns : List Column) → AreAt places wanted columns → All (Contains wanted) columns → AreDistinct (map column_name columns) → (i : ℕ) → i < length columns → Contains places i
each_place places wanted columns at kept distinct i low =
    let own = found columns i low in
    let place = at_place places wanted columns at own.0 (All-contains (Contains wanted) columns own.0 kept (among columns i own.0 own.1)) in
    subst (λ at. Contains places at) (one_place columns distinct i place.0 own.0 own.1 place.2) place.1
  where
    found : (columns : List Column) (i : ℕ) → i < length columns → (column : Column) × (slice_get columns i ≡ Some column)
    found [] i low = absurd (omega (arith, low))
    found (column ∷ columns) zero low = (column, refl)
    found (column ∷ columns) (suc i) low = let rest = found columns i (omega (arith, low)) in (rest.0, rest.1)

    among : (columns : List Column) (i : ℕ) (column : Column) → slice_get columns i ≡ Some column → Contains columns column
    among [] i column got = absurd cc
    among (own ∷ columns) zero column got = let same : own ≡ column = cc in (0, omega arith, same)
    among (own ∷ columns) (suc i) column got = let rest = among columns i column cc in (suc rest.0, omega (arith, rest.1), rest.2)

filter-same : (f g : Row → Bool) (rows : List Row) → All (λ row. f row ≡ g row) rows → filter f rows ≡ filter g rows
filter-same f g [] same = refl
filter-same f g (row ∷ rows) same =
    ap₂ (λ b l. cond b (row ∷ l) l) (All-head (λ r. f r ≡ g r) row rows same) (filter-same f g rows (All-tail (λ r. f r ≡ g r) row rows same))

-- where no column is dropped, rows are shown before what is chosen of them is taken, or behind it
pub shown_table-chosen : (wanted : Wanted) (choice : Choice) (columns : List Column) (table : SpanTable) → AreAt choice.places columns table.schema.columns → All (Contains columns) table.schema.columns
    → AreDistinct (map column_name table.schema.columns) → All (λ row. length row.key ≡ length table.schema.columns) table.rows →
    chosen_from choice (shown_table wanted table) ≡ shown_table wanted (chosen_from choice table)
shown_table-chosen wanted choice columns table at kept distinct whole = λ i. record { schema = schema_by choice table.schema; counts = table.counts; rows = rows i }
  where
    each : All (λ row. is_wanted wanted row.key ≡ is_wanted wanted (picked choice.places row.key)) table.rows
    each = λ k d low. sym (is_wanted-picked wanted choice.places (get_or table.rows k d).key (λ place below. each_place choice.places columns table.schema.columns at kept distinct place (omega (arith, below, whole k d low))))

    rows : rows_of (map (keyed_by choice) (filter (λ (row : Row). is_wanted wanted row.key) table.rows)) ≡ filter (λ (row : Row). is_wanted wanted row.key) (rows_of (map (keyed_by choice) table.rows))
    rows = ap (λ l. rows_of (map (keyed_by choice) l)) (filter-same (λ (row : Row). is_wanted wanted row.key) (λ (row : Row). is_wanted wanted (picked choice.places row.key)) table.rows each)
        ∙ sym (rows_of-passing (is_wanted wanted) (map (keyed_by choice) table.rows) ∙ ap rows_of (filter-map (λ e. is_wanted wanted e.key) (keyed_by choice) table.rows))

module _ (schema own : Schema) (choice : Choice) (at : AreAt choice.places schema.columns own.columns) (among : AreAmong choice.numbers own.numbers) where
  -- tables of runs that are added, with what is chosen of each, are the table of all runs with this
  pub sum-runs : (runs : List (List Run)) → add_tables (schema_by choice own) (map (chosen_from choice) (map (table_of own) runs)) ≡ table_of (schema_by choice own) (flat_map (λ part. part) runs)
  sum-runs runs = ap (add_tables (schema_by choice own)) (each runs) ∙ add_tables-table_of (schema_by choice own) runs
    where
      each : (runs : List (List Run)) → map (chosen_from choice) (map (table_of own) runs) ≡ map (table_of (schema_by choice own)) runs
      each [] = refl
      each (part ∷ parts) = ap₂ (λ (t : SpanTable) l. t ∷ l) (table_of-chosen choice own part among) (each parts)

  -- so are those of their rows that are shown, where no column is dropped
  pub sum-shown : (wanted : Wanted) → All (Contains schema.columns) own.columns → AreDistinct (map column_name own.columns) → (runs : List (List Run)) →
      add_tables (schema_by choice own) (map (chosen_from choice) (map (λ part. shown_table wanted (table_of own part)) runs)) ≡ shown_table wanted (table_of (schema_by choice own) (flat_map (λ part. part) runs))
  sum-shown wanted kept distinct runs =
      ap (add_tables (schema_by choice own)) (each runs) ∙ sym (shown_table-added wanted (schema_by choice own) (map (chosen_from choice) (map (table_of own) runs)))
      ∙ ap (shown_table wanted) (sum-runs runs)
    where
      each : (runs : List (List Run)) → map (chosen_from choice) (map (λ part. shown_table wanted (table_of own part)) runs) ≡ map (shown_table wanted) (map (chosen_from choice) (map (table_of own) runs))
      each [] = refl
      each (part ∷ parts) =
          ap₂ (λ (t : SpanTable) l. t ∷ l) (shown_table-chosen wanted choice schema.columns (table_of own part) at kept distinct (table_of-HasWholeKeys own part)) (each parts)

-- The rows of a narrowed table, one by one.
use Rattle.std.specs.{List.cons_option, Option.option_map, Prelude.{filter_map, flat_map}}
use Rattle.std.proofs.{Common.{◌≡◌, ◌∙◌, ◌+◌, ◌<◌, ◌++◌, ℕ, List, [], ◌∷◌, Option, Some, None, ap, append-nil, get_or, length, refl, sym, take}, Math.Seq.take-length, lemmas.List.{map-append, take_more, Elements.filter_map-append}}
use Rattle.span_table.specs.{Adding.{keyed_row, with_row}, Tables.AreRowsOf, declared.table.Row.Row}
use Rattle.span_table.proofs.{AddedTables.{AddUpAlike-moved, rows-then, rows_of-alike}, Mixed.AreRowsOf-permutation}
use Rattle.span_narrowing.specs.{Keyed, KeyedSums, SpanTable, Sums, TableKey, keyed_rows, Narrowed.{narrowed_key, narrowed_sums, shown_schema, shown_with}, declared.narrowing.Narrowing.Narrowing}

module _ (narrowing : Narrowing) (table : SpanTable) (rows : List Row) where
  -- what the first rows have in the narrowed table
  abbrev pub first_sums : ℕ → KeyedSums
  first_sums n = filter_map (narrowed_sums narrowing table.schema.columns) (keyed_rows (take n rows))

  -- a row added is one sum more
  shown_with-row : (sums : KeyedSums) (row : Row) → with_row (shown_with narrowing table sums) row ≡ shown_with narrowing table (sums ++ keyed_row row ∷ [])
  shown_with-row sums row =
      λ i. record { schema = shown_schema narrowing table.schema; counts = table.counts; rows = rows-then sums (keyed_row row ∷ []) i }

  module _ (n : ℕ) (row : Row) (low : n < length rows) (at : row ≡ get_or rows n row) where
    -- the sums of one more row, under the key that it has then
    abbrev own_sums : Option TableKey → List (Keyed TableKey Sums)
    own_sums found = cons_option (option_map (λ (key : TableKey). record { key = key; step = row.sums }) found) []

    first_sums-next : (found : Option TableKey) → found ≡ narrowed_key narrowing table.schema.columns row.key → first_sums (n + 1) ≡ first_sums n ++ own_sums found
    first_sums-next found is =
        ap (filter_map (narrowed_sums narrowing table.schema.columns))
        (ap keyed_rows (take_more rows n row low) ∙ map-append keyed_row (take n rows) (get_or rows n row ∷ []))
        ∙ filter_map-append (narrowed_sums narrowing table.schema.columns) (keyed_rows (take n rows)) (keyed_row (get_or rows n row) ∷ [])
        ∙ ap (λ (r : Row). first_sums n ++ cons_option (narrowed_sums narrowing table.schema.columns (keyed_row r)) []) (sym at)
        ∙ ap (λ (o : Option TableKey). first_sums n ++ own_sums o) (sym is)

    -- a row of which all conditions hold is added
    pub first_sums-kept : (key : TableKey) (old new : SpanTable) → Some key ≡ narrowed_key narrowing table.schema.columns row.key → old ≡ shown_with narrowing table (first_sums n)
        → new ≡ with_row old (record { key = key; sums = row.sums }) → new ≡ shown_with narrowing table (first_sums (n + 1))
    first_sums-kept key old new is was adds =
        adds ∙ ap (λ (t : SpanTable). with_row t (record { key = key; sums = row.sums })) was ∙ shown_with-row (first_sums n) (record { key = key; sums = row.sums })
        ∙ ap (shown_with narrowing table) (sym (first_sums-next (Some key) is))

    -- another one is left out
    pub first_sums-left : (old : SpanTable) → None ≡ narrowed_key narrowing table.schema.columns row.key → old ≡ shown_with narrowing table (first_sums n)
        → old ≡ shown_with narrowing table (first_sums (n + 1))
    first_sums-left old is was =
        was ∙ ap (shown_with narrowing table) (sym (append-nil (first_sums n)) ∙ sym (first_sums-next None is))

  -- where they are the rows of the table, all of them have what it has
  pub first_sums-all : AreRowsOf table.rows rows → shown_with narrowing table (first_sums (length rows)) ≡ shown_with narrowing table (filter_map (narrowed_sums narrowing table.schema.columns) (keyed_rows table.rows))
  first_sums-all are =
      let own = λ (row : Row). cons_option (narrowed_sums narrowing table.schema.columns (keyed_row row)) [] in
      let moved = rows_of-alike (flat_map own rows) (flat_map own table.rows) (AddUpAlike-moved own rows table.rows (AreRowsOf-permutation table.rows rows are)) in
      ap (shown_with narrowing table) (ap (λ rs. filter_map (narrowed_sums narrowing table.schema.columns) (keyed_rows rs)) (take-length rows) ∙ sym (each rows))
      ∙ (λ i. record { schema = shown_schema narrowing table.schema; counts = table.counts; rows = moved i }) ∙ ap (shown_with narrowing table) (each table.rows)
    where
      behind : (found : Option (Keyed TableKey Sums)) (later : KeyedSums) → cons_option found [] ++ later ≡ cons_option found later
      behind None later = refl
      behind (Some own) later = refl

      each : (rs : List Row) → flat_map (λ (row : Row). cons_option (narrowed_sums narrowing table.schema.columns (keyed_row row)) []) rs ≡ filter_map (narrowed_sums narrowing table.schema.columns) (keyed_rows rs)
      each [] = refl
      each (row ∷ rs) =
          let found = narrowed_sums narrowing table.schema.columns (keyed_row row) in
          ap (λ l. cons_option found [] ++ l) (each rs) ∙ behind found (filter_map (narrowed_sums narrowing table.schema.columns) (keyed_rows rs))

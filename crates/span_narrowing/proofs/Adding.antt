-- Tables that are narrowed and then added, or added and then narrowed.
use Rattle.std.specs.{List.cons_option, Option.option_map, Prelude.{filter_map, flat_map, is_some, unwrap_or}}
use Rattle.std.proofs.{Common.{◌≡◌, ◌∙◌, ◌-◌, Bool, cond, List, [], ◌∷◌, ◌++◌, All, Option, Some, None, ap, ap₂, arith, filter, length, map, refl, sym, take}, Math.Seq.take-append_seam, lemmas.{List.{length-append, length-map, Elements.{All-cons, All-head, All-nil, All-tail, filter_map-append}}, Simd.map-map}}
use Rattle.span_table.specs.{KeyLaws.{key_cmp_total, key_cmp-same}, declared.{table.Row.Row}, Tables.counts_together}
use Rattle.span_table.proofs.{AddedTables.{add_tables-table_of, regrouped, rows-back, rows-regrouped, rows_of-alike, table_of-moved}, Alike.{AddUpAlike-flat_map, AddUpAlike-grouped}, OwnRows.rows_of-own, Rows.RowsRise-rows_of, Tallies.under}
use Rattle.span_table_text.proofs.ShownSums.{rows_of-passing}
use Rattle.span_narrowing.specs.{Column, Keyed, KeyedSums, Run, SpanTable, Sums, TableKey, add_tables, keyed_rows, rows_of, table_of, Laws.{NarrowingAdds, NarrowingHasNoOrder, NarrowingLosesNothing}, Narrowed.{narrowed, narrowed_key, narrowed_sums, shown_of, summed_by, summed_schema}, declared.{conditions.Condition.Condition, narrowing.Narrowing.Narrowing}}

-- sums under other keys: where they have the same rows, they have the same ones under these
module _ (g : TableKey → TableKey) where
  moved : (es : KeyedSums) → rows_of (map (λ (row : Row). record { key = g row.key; step = row.sums }) (rows_of es)) ≡ rows_of (map (under g) es)
  moved es = ap rows_of (rows-regrouped g es) ∙ rows_of-alike (regrouped g es) (map (under g) es) (AddUpAlike-grouped key_cmp_total key_cmp-same g es)

  moved-same : (es fs : KeyedSums) → rows_of es ≡ rows_of fs → rows_of (map (under g) es) ≡ rows_of (map (under g) fs)
  moved-same es fs same = sym (moved es) ∙ ap (λ (rows : List Row). rows_of (map (λ (row : Row). record { key = g row.key; step = row.sums }) rows)) same ∙ moved fs

-- so they have where only some keys stay, under others
module _ (g : TableKey → Option TableKey) where
  abbrev become : Keyed TableKey Sums → Option (Keyed TableKey Sums)
  become own = option_map (λ key. record { key = key; step = own.step }) (g own.key)

  abbrev stays : Keyed TableKey Sums → Bool
  stays own = is_some (g own.key)

  abbrev other : TableKey → TableKey
  other key = unwrap_or (g key) []

  become-parts : (es : KeyedSums) → filter_map become es ≡ map (under other) (filter stays es)
  become-parts [] = refl
  become-parts (e ∷ es) = by (g e.key) refl (become-parts es)
    where
      by : (found : Option TableKey) → g e.key ≡ found → filter_map become es ≡ map (under other) (filter stays es) →
          cons_option (option_map (λ key. record { key = key; step = e.step }) found) (filter_map become es) ≡ map (under other) (cond (is_some found) (e ∷ filter stays es) (filter stays es))
      by None is rest = rest
      by (Some key) is rest = ap₂ (λ (k : TableKey) (l : KeyedSums). record { key = k; step = e.step } ∷ l) (sym (ap (λ o. unwrap_or o []) is)) rest

  become-same : (es fs : KeyedSums) → rows_of es ≡ rows_of fs → rows_of (filter_map become es) ≡ rows_of (filter_map become fs)
  become-same es fs same =
      ap rows_of (become-parts es)
      ∙ moved-same other (filter stays es) (filter stays fs)
      (sym (rows_of-passing (λ key. is_some (g key)) es) ∙ ap (filter (λ (row : Row). is_some (g row.key))) same ∙ rows_of-passing (λ key. is_some (g key)) fs)
      ∙ sym (ap rows_of (become-parts fs))

module _ (narrowing : Narrowing) (columns : List Column) where
  abbrev own : List Column
  own = summed_by columns narrowing

  -- what a table has, and what it has once it is narrowed
  abbrev sums : SpanTable → KeyedSums
  sums table = keyed_rows table.rows

  abbrev kept : KeyedSums → KeyedSums
  kept es = filter_map (narrowed_sums narrowing own) es

  -- the columns before those of the conditions are those that are shown
  shown-own : take (shown_of narrowing.conditions.items own) own ≡ columns
  shown-own =
      let conditions = map (λ (condition : Condition). condition.column) narrowing.conditions.items in
      let long : length own - length narrowing.conditions.items ≡ length columns =
      omega (arith, length-append columns conditions, length-map narrowing.conditions.items (λ (condition : Condition). condition.column)) in
      ap (λ n. take n own) long ∙ take-append_seam columns conditions

  -- all of these tables have those of the conditions too
  abbrev Have : List SpanTable → Type 0
  Have tables = All (λ (table : SpanTable). table.schema.columns ≡ own) tables

  each-kept : (tables : List SpanTable) → Have tables → flat_map (λ (table : SpanTable). filter_map (narrowed_sums narrowing table.schema.columns) (sums table)) tables ≡ kept (flat_map sums tables)
  each-kept [] have = refl
  each-kept (table ∷ tables) have =
      ap₂ (λ (l : List Column) (more : KeyedSums). filter_map (narrowed_sums narrowing l) (sums table) ++ more) (All-head (λ (t : SpanTable). t.schema.columns ≡ own) table tables have)
      (each-kept tables (All-tail (λ (t : SpanTable). t.schema.columns ≡ own) table tables have))
      ∙ sym (filter_map-append (narrowed_sums narrowing own) (sums table) (flat_map sums tables))

  flat_map-narrowed : (tables : List SpanTable) → flat_map sums (map (narrowed narrowing) tables) ≡ flat_map (λ (table : SpanTable). keyed_rows (rows_of (filter_map (narrowed_sums narrowing table.schema.columns) (sums table)))) tables
  unfolding narrowed
  flat_map-narrowed [] = refl
  flat_map-narrowed (table ∷ tables) = ap (λ l. keyed_rows (rows_of (filter_map (narrowed_sums narrowing table.schema.columns) (sums table))) ++ l) (flat_map-narrowed tables)

  -- the rows of tables that are narrowed, added, are the narrowed rows of tables that are added
  rows-narrowed : (tables : List SpanTable) → Have tables → rows_of (flat_map sums (map (narrowed narrowing) tables)) ≡ rows_of (kept (keyed_rows (rows_of (flat_map sums tables))))
  rows-narrowed tables have =
      ap rows_of (flat_map-narrowed tables)
      ∙ rows_of-alike (flat_map (λ (table : SpanTable). keyed_rows (rows_of (filter_map (narrowed_sums narrowing table.schema.columns) (sums table)))) tables)
      (flat_map (λ (table : SpanTable). filter_map (narrowed_sums narrowing table.schema.columns) (sums table)) tables)
      (AddUpAlike-flat_map (λ (table : SpanTable). keyed_rows (rows_of (filter_map (narrowed_sums narrowing table.schema.columns) (sums table))))
      (λ (table : SpanTable). filter_map (narrowed_sums narrowing table.schema.columns) (sums table)) (λ table. rows-back (filter_map (narrowed_sums narrowing table.schema.columns) (sums table))) tables)
      ∙ ap rows_of (each-kept tables have)
      ∙ become-same (narrowed_key narrowing own) (flat_map sums tables) (keyed_rows (rows_of (flat_map sums tables)))
      (sym (rows_of-own (rows_of (flat_map sums tables)) (RowsRise-rows_of (flat_map sums tables))))

  counts-narrowed : (tables : List SpanTable) → map (λ (table : SpanTable). table.counts) (map (narrowed narrowing) tables) ≡ map (λ (table : SpanTable). table.counts) tables
  unfolding narrowed
  counts-narrowed [] = refl
  counts-narrowed (table ∷ tables) = ap (λ l. table.counts ∷ l) (counts-narrowed tables)

-- narrowed and then added, as added and then narrowed
pub narrowed-added : NarrowingAdds
unfolding narrowed
narrowed-added narrowing schema tables have = λ i. record {
  schema = record { of = schema.of; columns = sym (shown-own narrowing schema.columns) i; numbers = schema.numbers };
  counts = counts_together (counts-narrowed narrowing schema.columns tables i);
  rows = rows-narrowed narrowing schema.columns tables have i;
}

-- of runs
pub narrowed-together : NarrowingLosesNothing
narrowed-together narrowing schema lists =
    ap (add_tables schema) (sym (map-map (narrowed narrowing) (table_of (summed_schema schema narrowing)) lists))
    ∙ narrowed-added narrowing schema (map (table_of (summed_schema schema narrowing)) lists) (have lists)
    ∙ ap (narrowed narrowing) (add_tables-table_of (summed_schema schema narrowing) lists)
  where
    have : (lists : List (List Run)) → All (λ (table : SpanTable). table.schema.columns ≡ summed_by schema.columns narrowing) (map (table_of (summed_schema schema narrowing)) lists)
    have [] = All-nil (λ (table : SpanTable). table.schema.columns ≡ summed_by schema.columns narrowing)
    have (list ∷ lists) = All-cons (λ (table : SpanTable). table.schema.columns ≡ summed_by schema.columns narrowing) (table_of (summed_schema schema narrowing) list) (map (table_of (summed_schema schema narrowing)) lists) refl (have lists)

-- and in whatever order
pub narrowed-moved : NarrowingHasNoOrder
narrowed-moved narrowing schema runs other permuted = ap (narrowed narrowing) (table_of-moved (summed_schema schema narrowing) runs other permuted)

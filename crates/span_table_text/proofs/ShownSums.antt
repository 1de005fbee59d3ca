-- Of tables that are added, the rows that are shown are those that are shown of each, added.
use Rattle.std.specs.Ordering.{is_eq}
use Rattle.std.proofs.{Common.{◌≡◌, Bool, true, false, cond, ◌&&◌, ◌||◌, List, [], ◌∷◌, ◌++◌, filter, flat_map, map, refl, sym, ap, ap₂, ◌∙◌}, lemmas.{Bool.and_parts, List.Elements.filter-append}}
use Rattle.span_self_time.proofs.Mapped.{filter-map}
use Rattle.span_keyed_tracks.proofs.{Keyed.{has_key, same_from_is_eq}, SameKeys.step_keys}
use Rattle.span_table.specs.{Adding.{keyed_row, keyed_rows}, KeyLaws.key_cmp-same}
use Rattle.span_table.proofs.{AddedTables.{rows-back, rows_of-alike}, Alike.AddUpAlike, OwnRows.rows_of-own, Rows.RowsRise-rows_of}
use Rattle.span_table_text.specs.{Keyed, Sums, Row, steps_at, key_cmp_total, TableKey, key_cmp, KeyedSums, SpanTable, counts_together, rows_of, sums_together, Json.shown_table, Printed.ShownRowsAdd, Shown.{is_wanted}}
use Rattle.span_table_text.proofs.Ranked.{filter-sorted}

module _ (p : TableKey → Bool) where
  -- sums whose keys pass
  abbrev passing : KeyedSums → KeyedSums
  passing es = filter (λ (e : Keyed TableKey Sums). p e.key) es

  same_passes : (k x : TableKey) → is_eq (key_cmp k x) ≡ true → p k ≡ p x
  same_passes k x same = ap p (same_from_is_eq key_cmp_total key_cmp-same k x same)

  -- a key is among them where it is among all, and passes
  has_key-passing : (k : TableKey) (es : KeyedSums) → has_key key_cmp k (step_keys (passing es)) ≡ (p k && has_key key_cmp k (step_keys es))
  has_key-passing k [] = none (p k)
    where
      none : (b : Bool) → false ≡ (b && false)
      none true = refl
      none false = refl
  has_key-passing k (e ∷ es) = by (p e.key) refl (has_key-passing k es)
    where
      both : (here own later : Bool) → (here ≡ true → own ≡ true) → (here || (own && later)) ≡ (own && (here || later))
      both true own later passes = ap (λ b. b && true) (sym (passes refl))
      both false own later passes = refl

      neither : (here own later : Bool) → (here ≡ true → own ≡ false) → (own && later) ≡ (own && (here || later))
      neither true own later fails = ap (λ b. b && later) (fails refl) ∙ ap (λ b. b && true) (sym (fails refl))
      neither false own later fails = refl

      by : (b : Bool) → p e.key ≡ b → has_key key_cmp k (step_keys (passing es)) ≡ (p k && has_key key_cmp k (step_keys es)) →
          has_key key_cmp k (step_keys (cond b (e ∷ passing es) (passing es))) ≡ (p k && (is_eq (key_cmp k e.key) || has_key key_cmp k (step_keys es)))
      by true passes rest =
          ap (λ b. is_eq (key_cmp k e.key) || b) rest
          ∙ both (is_eq (key_cmp k e.key)) (p k) (has_key key_cmp k (step_keys es)) (λ same. same_passes k e.key same ∙ passes)
      by false fails rest =
          rest ∙ neither (is_eq (key_cmp k e.key)) (p k) (has_key key_cmp k (step_keys es)) (λ same. same_passes k e.key same ∙ fails)

  -- a key that passes has all its sums among them, and another has none
  steps_at-passing : (k : TableKey) (es : KeyedSums) → steps_at key_cmp k (passing es) ≡ cond (p k) (steps_at key_cmp k es) []
  steps_at-passing k [] = none (p k)
    where
      none : (b : Bool) → let steps : List Sums = [] in steps ≡ cond b [] []
      none true = refl
      none false = refl
  steps_at-passing k (e ∷ es) = by (p e.key) refl (steps_at-passing k es)
    where
      own : Bool
      own = is_eq (key_cmp e.key k)

      both : (here : Bool) → own ≡ here → p e.key ≡ true → steps_at key_cmp k (passing es) ≡ cond (p k) (steps_at key_cmp k es) [] → cond here (e.step ∷ steps_at key_cmp k (passing es)) (steps_at key_cmp k (passing es)) ≡ cond (p k) (cond here (e.step ∷ steps_at key_cmp k es) (steps_at key_cmp k es)) []
      both true same passes rest =
          let mine = sym (same_passes e.key k same) ∙ passes in
          ap (λ steps. e.step ∷ steps) (rest ∙ ap (λ b. cond b (steps_at key_cmp k es) []) mine) ∙ ap (λ b. cond b (e.step ∷ steps_at key_cmp k es) []) (sym mine)
      both false same passes rest = rest

      neither : (here : Bool) → own ≡ here → p e.key ≡ false → steps_at key_cmp k (passing es) ≡ cond (p k) (steps_at key_cmp k es) [] → steps_at key_cmp k (passing es) ≡ cond (p k) (cond here (e.step ∷ steps_at key_cmp k es) (steps_at key_cmp k es)) []
      neither true same fails rest =
          let mine = sym (same_passes e.key k same) ∙ fails in
          rest ∙ ap (λ b. cond b (steps_at key_cmp k es) []) mine ∙ ap (λ b. cond b (e.step ∷ steps_at key_cmp k es) []) (sym mine)
      neither false same fails rest = rest

      moved : (here : Bool) (rest : List (Keyed TableKey Sums)) → map (λ (x : Keyed TableKey Sums). x.step) (cond here (e ∷ rest) rest) ≡ cond here (e.step ∷ map (λ (x : Keyed TableKey Sums). x.step) rest) (map (λ (x : Keyed TableKey Sums). x.step) rest)
      moved true rest = refl
      moved false rest = refl

      at : (fs : KeyedSums) → steps_at key_cmp k (e ∷ fs) ≡ cond own (e.step ∷ steps_at key_cmp k fs) (steps_at key_cmp k fs)
      at fs = moved own (filter (λ (x : Keyed TableKey Sums). is_eq (key_cmp x.key k)) fs)

      by : (b : Bool) → p e.key ≡ b → steps_at key_cmp k (passing es) ≡ cond (p k) (steps_at key_cmp k es) [] → steps_at key_cmp k (cond b (e ∷ passing es) (passing es)) ≡ cond (p k) (steps_at key_cmp k (e ∷ es)) []
      by true passes rest = at (passing es) ∙ both own refl passes rest ∙ ap (λ steps. cond (p k) steps []) (sym (at es))
      by false fails rest = neither own refl fails rest ∙ ap (λ steps. cond (p k) steps []) (sym (at es))

  -- where sums add up alike, so do those of them whose keys pass
  AddUpAlike-passing : (es fs : KeyedSums) → AddUpAlike es fs → AddUpAlike (passing es) (passing fs)
  AddUpAlike-passing es fs alike = record {
    there = λ k has. within es fs alike.there k has;
    back = λ k has. within fs es alike.back k has;
    sums = λ k. ap sums_together (steps_at-passing k es) ∙ sums (p k) k ∙ sym (ap sums_together (steps_at-passing k fs));
  }
    where
      within : (es fs : KeyedSums) → ((k : TableKey) → has_key key_cmp k (step_keys es) ≡ true → has_key key_cmp k (step_keys fs) ≡ true) → (k : TableKey) → has_key key_cmp k (step_keys (passing es)) ≡ true → has_key key_cmp k (step_keys (passing fs)) ≡ true
      within es fs known k has =
          let parts = and_parts (p k) (has_key key_cmp k (step_keys es)) (sym (has_key-passing k es) ∙ has) in
          has_key-passing k fs ∙ ap₂ (λ a b. a && b) parts.0 (known k parts.1)

      sums : (b : Bool) (k : TableKey) → sums_together (cond b (steps_at key_cmp k es) []) ≡ sums_together (cond b (steps_at key_cmp k fs) [])
      sums true k = alike.sums k
      sums false k = refl

  -- the rows whose keys pass are those of the sums whose keys pass
  pub rows_of-passing : (es : KeyedSums) → filter (λ (row : Row). p row.key) (rows_of es) ≡ rows_of (passing es)
  rows_of-passing es =
      sym (rows_of-own (filter (λ (row : Row). p row.key) (rows_of es)) (filter-sorted (λ (a b : Row). key_cmp a.key b.key) (λ (row : Row). p row.key) (rows_of es) (RowsRise-rows_of es)))
      ∙ ap rows_of (sym (filter-map (λ (e : Keyed TableKey Sums). p e.key) keyed_row (rows_of es)))
      ∙ rows_of-alike (passing (keyed_rows (rows_of es))) (passing es) (AddUpAlike-passing (keyed_rows (rows_of es)) es (rows-back es))

-- of tables that are added, the rows that are shown are those of each that are, added
pub shown_table-added : ShownRowsAdd
shown_table-added wanted schema tables = λ i. record { schema = schema; counts = counts_together (counts tables i); rows = rows i }
  where
    counts : (tables : List SpanTable) → map (λ (table : SpanTable). table.counts) tables ≡ map (λ (table : SpanTable). table.counts) (map (shown_table wanted) tables)
    counts [] = refl
    counts (table ∷ tables) = ap (λ l. table.counts ∷ l) (counts tables)

    each : (tables : List SpanTable) → passing (is_wanted wanted) (flat_map (λ (table : SpanTable). keyed_rows table.rows) tables) ≡ flat_map (λ (table : SpanTable). keyed_rows table.rows) (map (shown_table wanted) tables)
    each [] = refl
    each (table ∷ tables) =
        filter-append (λ (e : Keyed TableKey Sums). is_wanted wanted e.key) (keyed_rows table.rows) (flat_map (λ (t : SpanTable). keyed_rows t.rows) tables)
        ∙ ap₂ (λ (a b : KeyedSums). a ++ b) (filter-map (λ (e : Keyed TableKey Sums). is_wanted wanted e.key) keyed_row table.rows) (each tables)

    rows : filter (λ (row : Row). is_wanted wanted row.key) (rows_of (flat_map (λ (table : SpanTable). keyed_rows table.rows) tables))
        ≡ rows_of (flat_map (λ (table : SpanTable). keyed_rows table.rows) (map (shown_table wanted) tables))
    rows = rows_of-passing (is_wanted wanted) (flat_map (λ (table : SpanTable). keyed_rows table.rows) tables) ∙ ap rows_of (each tables)

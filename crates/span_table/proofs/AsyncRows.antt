-- By category, scope, id and name a table has the asynchronous rows of its run, if their texts distinguish them; by whatever columns it
-- has in all what these have.
use Rattle.std.specs.{Cmp.tied_itself, List.{AllByRecursion, IsDistinct, Sorted.IsPermutation}, Ordering.{eq_by_cmp, is_eq}, Prelude.{filter, sum_by}}
use Rattle.std.proofs.{Common.{◌≡◌, ℕ, ◌+◌, Bool, false, cond, List, [], ◌∷◌, ◌++◌, map, refl, sym, ap, ap₂, subst, ◌∙◌}, lemmas.List.{append-nil, Sorted.IsPermutation-map}}
use Rattle.span_self_time.proofs.Mapped.{sum_by-map}
use Rattle.span_keyed_tracks.proofs.{InKeyOrder.AreApart-distinct, Keyed.{has_key, neither}, SameKeys.step_keys, Sorting.ascending-permutation, Uses.{AreApart, is_eq-turned}}
use Rattle.span_journal.proofs.Sorted.{map-map}
use Rattle.span_table.specs.{AsyncRow, Keyed, ascending, entry_of, steps_at, async_rows, KeyLaws.{key_cmp_total, key_cmp-same}, Keys.{TableKey, key_cmp}, Laws.{RowsAddUpToAsync, RowsAreAsyncRows, async_columns, of_async_row}, Numbers.usual_numbers, Sums.{no_sums, only, sums_of_async, with_sums}, Tables.{KeyedSums, async_sums, keyed_async, row_of, rows_of, sums_together, table_of, usual_schema, with_only}, declared.{audience.Audience.TheVariants.Programs, number.Number.Number, of.Of.TheVariants.Async, sums.Sums.Sums, table.Row.Row}}
use Rattle.span_table.proofs.{AddedTables.{rows-regrouped}, Alike.AddUpAlike-grouped, Tallies.{number-total, sums_together-one}}

abbrev Entry : Type 0
Entry = Keyed TableKey Sums

-- sums of other keys are not among those of a key
steps-absent : (k : TableKey) (es : KeyedSums) → has_key key_cmp k (step_keys es) ≡ false → steps_at key_cmp k es ≡ []
steps-absent k [] none = refl
steps-absent k (e ∷ es) none =
    let both = neither (is_eq (key_cmp k e.key)) (has_key key_cmp k (step_keys es)) none in
    let rest = filter (λ (x : Entry). is_eq (key_cmp x.key k)) es in
    ap (λ (b : Bool). map (λ (x : Entry). x.step) (cond b (e ∷ rest) rest)) (is_eq-turned key_cmp_total e.key k ∙ both.0) ∙ steps-absent k es both.1

-- where keys are apart, each has its own sums alone
steps-own : (es : KeyedSums) → AreApart key_cmp_total (step_keys es) → AllByRecursion (λ (x : Entry). steps_at key_cmp x.key es ≡ x.step ∷ []) es
steps-own [] apart = tt
steps-own (e ∷ es) apart = (first, later es apart.0 (steps-own es apart.1))
  where
    first : steps_at key_cmp e.key (e ∷ es) ≡ e.step ∷ []
    first =
        let rest = filter (λ (x : Entry). is_eq (key_cmp x.key e.key)) es in
        ap (λ (b : Bool). map (λ (x : Entry). x.step) (cond b (e ∷ rest) rest)) (ap is_eq (tied_itself key_cmp_total e.key)) ∙ ap (λ l. e.step ∷ l) (steps-absent e.key es apart.0)

    later : (fs : KeyedSums) → has_key key_cmp e.key (step_keys fs) ≡ false → AllByRecursion (λ (x : Entry). steps_at key_cmp x.key es ≡ x.step ∷ []) fs
        → AllByRecursion (λ (x : Entry). steps_at key_cmp x.key (e ∷ es) ≡ x.step ∷ []) fs
    later [] none all = tt
    later (f ∷ fs) none all =
        let both = neither (is_eq (key_cmp e.key f.key)) (has_key key_cmp e.key (step_keys fs)) none in
        let rest = filter (λ (x : Entry). is_eq (key_cmp x.key f.key)) es in
        (ap (λ (b : Bool). map (λ (x : Entry). x.step) (cond b (e ∷ rest) rest)) both.0 ∙ all.0, later fs both.1 all.1)

module _ (es : KeyedSums) where
  abbrev made : TableKey → Row
  made k = row_of (k, sums_together (steps_at key_cmp k es))

  abbrev own : Entry → Row
  own e = record { key = e.key; sums = e.step }

  made-own : (fs : KeyedSums) → AllByRecursion (λ (x : Entry). steps_at key_cmp x.key es ≡ x.step ∷ []) fs → map made (step_keys fs) ≡ map own fs
  made-own [] all = refl
  made-own (f ∷ fs) all = ap₂ (λ sums (l : List Row). record { key = f.key; sums = sums } ∷ l) (ap sums_together all.0 ∙ sums_together-one f.step) (made-own fs all.1)

  -- where keys are distinct, each of the sums has a row
  rows_of-distinct : IsDistinct (eq_by_cmp key_cmp) (step_keys es) → IsPermutation (map own es) (rows_of es)
  rows_of-distinct distinct =
      let keys = step_keys es in
      let entry = entry_of (λ k. sums_together (steps_at key_cmp k es)) in
      subst (λ rows. IsPermutation rows (rows_of es)) (made-own es (steps-own es (AreApart-distinct key_cmp_total keys distinct)))
      (subst (IsPermutation (map made keys)) (sym (map-map row_of entry (ascending key_cmp keys)))
      (IsPermutation-map made keys (ascending key_cmp keys) (ascending-permutation key_cmp_total keys distinct)))

-- by category, scope, id and name a table of one run has its asynchronous rows
pub rows-are_async_rows : RowsAreAsyncRows
rows-are_async_rows run distinguished =
    let rows = async_rows run.journal in
    let numbers = usual_numbers Programs Async in
    let make : AsyncRow → Entry = λ row. record { key = (of_async_row row).key; step = sums_of_async row 0 } in
    let sums = map make rows in
    let distinct = subst (IsDistinct (eq_by_cmp key_cmp)) (sym (map-map (λ (e : Entry). e.key) make rows)) distinguished in
    subst (IsPermutation (map of_async_row rows)) (ap rows_of (sym (append-nil (map (with_only numbers) (async_sums async_columns run)) ∙ map-map (with_only numbers) (keyed_async async_columns run) rows)))
    (subst (λ l. IsPermutation l (rows_of sums)) (map-map (own sums) make rows) (rows_of-distinct sums distinct))

-- under the key of no columns stand all
steps-all : {A : Type 0} (h : A → Sums) (xs : List A) → steps_at key_cmp [] (map (λ x. record { key = []; step = h x }) xs) ≡ map h xs
steps-all h [] = refl
steps-all h (x ∷ xs) = ap (λ l. h x ∷ l) (steps-all h xs)

-- what rows have of a number is what the sums have
rows-total : (n : Sums → ℕ) → ((a b : Sums) → n (with_sums a b) ≡ n a + n b) → n no_sums ≡ 0 → (es : KeyedSums) → sum_by (λ (row : Row). n row.sums) (rows_of es) ≡ sum_by (λ (e : Entry). n e.step) es
rows-total n adds zero es =
    let none : TableKey → TableKey = λ k. [] in
    let alike = AddUpAlike-grouped key_cmp_total key_cmp-same none es in
    sym (number-total n adds zero (λ (row : Row). row.sums) (rows_of es))
    ∙ ap (λ l. n (sums_together l)) (sym (steps-all (λ (row : Row). row.sums) (rows_of es)))
    ∙ ap (λ (l : KeyedSums). n (sums_together (steps_at key_cmp [] l))) (rows-regrouped none es)
    ∙ ap n (alike.sums [])
    ∙ ap (λ l. n (sums_together l)) (steps-all (λ (e : Entry). e.step) es) ∙ number-total n adds zero (λ (e : Entry). e.step) es

-- by whatever columns, the rows have in all what the asynchronous rows have
pub rows-add_up : RowsAddUpToAsync
rows-add_up columns run = record {
  closed = number (λ (s : Sums). s.count) (λ a b. refl) refl (λ s. refl);
  total = number (λ (s : Sums). s.total) (λ a b. refl) refl (λ s. refl);
  unclosed = number (λ (s : Sums). s.unclosed) (λ a b. refl) refl (λ s. refl);
  points = number (λ (s : Sums). s.points) (λ a b. refl) refl (λ s. refl);
}
  where
    numbers : List Number
    numbers = usual_numbers Programs Async

    number : (n : Sums → ℕ) → ((a b : Sums) → n (with_sums a b) ≡ n a + n b) → n no_sums ≡ 0 → ((s : Sums) → n (only numbers s) ≡ n s) →
        sum_by (λ (row : Row). n row.sums) (table_of (usual_schema Async columns) (run ∷ [])).rows ≡ sum_by (λ (row : AsyncRow). n (sums_of_async row 0)) (async_rows run.journal)
    number n adds none kept =
        let sums = map (with_only numbers) (async_sums columns run) in
        rows-total n adds none (sums ++ []) ∙ ap (sum_by (λ (e : Entry). n e.step)) (append-nil sums ∙ map-map (with_only numbers) (keyed_async columns run) (async_rows run.journal))
        ∙ sum_by-map (λ (e : Entry). n e.step) (λ row. with_only numbers (keyed_async columns run row)) (async_rows run.journal)

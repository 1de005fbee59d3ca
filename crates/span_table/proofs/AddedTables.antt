-- Tables are added, and lose nothing by it.
use Rattle.std.specs.{List.{cons_option, list_any, Sorted.IsPermutation}, Option.option_map, Prelude.{flat_map, nat_lt, slice_get, sum_by}}
use Rattle.std.proofs.{Common.{◌≡◌, ℕ, ◌+◌, ◌||◌, arith, List, [], ◌∷◌, ◌++◌, Option, Some, None, map, refl, sym, ap, ap₂, subst, ◌∙◌}, lemmas.{Grind.flat_map-append, List.{map-append, map-id, Sorted.{IsPermutation-map, list_any-IsPermutation, sum_by-IsPermutation}, Sums.{sum_by-append, sum_by-cons}}, Option.slice_get-map, Simd.map-map}}
use Rattle.span_self_time.proofs.Mapped.{sum_by-map}
use Rattle.span_keyed_tracks.proofs.{Keyed.has_key, SameKeys.step_keys}
use Rattle.span_table.specs.{Thread, AsyncRow, Keyed, keys_in, steps_at, CountRow, accepted, async_rows, thread_keys, Timed, timed_spans, thread_events, closed_spans, parent_of, Adding.{AddingLosesNothing, AreAmong, Choice, DroppingAdds, OrderIsNothing, keyed_by, keyed_row, keyed_rows, picked, schema_by}, Columns.{async_value_at, value_at}, KeyLaws.{key_cmp_total, key_cmp-same}, Keys.{TableKey, key_cmp}, Sums.{no_sums, number_by, with_sums}, Tables.{KeyedSums, Run, Schema, SpanTable, called, counts_of, counts_together, keyed_async, keyed_span, row_of, rows_of, run_sums, schema_sums, sums_of, sums_together, table_of, thread_sums, with_only}, declared.{column.Column.Column, counts.TableCounts.TableCounts, number.Number.{Number, TheVariants.Longest}, of.Of.{Of, TheVariants.{Spans, Async}}, sums.Sums.Sums, table.Row.Row}}
use Rattle.span_table.proofs.{Alike.{AddUpAlike, AddUpAlike-append, AddUpAlike-flat_map, AddUpAlike-grouped, AddUpAlike-refl, has_key-append, summed-alike}, Only.{AddUpAlike-only, only-among}, Numbers.same_numbers, Tallies.{above-max, made_of, nat-same, number-total, tally, tally-append, total, under}}

-- sums that add up alike give the same rows
pub rows_of-alike : (es fs : KeyedSums) → AddUpAlike es fs → rows_of es ≡ rows_of fs
rows_of-alike es fs alike = ap (map row_of) (summed-alike es fs alike)

flat_map-map : {A B C : Type 0} (f : B → List C) (g : A → B) (xs : List A) → flat_map f (map g xs) ≡ flat_map (λ x. f (g x)) xs
flat_map-map f g [] = refl
flat_map-map f g (x ∷ xs) = ap (λ l. f (g x) ++ l) (flat_map-map f g xs)

flat_map-flat_map : {A B C : Type 0} (f : B → List C) (g : A → List B) (xs : List A) → flat_map f (flat_map g xs) ≡ flat_map (λ x. flat_map f (g x)) xs
flat_map-flat_map f g [] = refl
flat_map-flat_map f g (x ∷ xs) = flat_map-append f (g x) (flat_map g xs) ∙ ap (λ l. flat_map f (g x) ++ l) (flat_map-flat_map f g xs)

pub map-flat_map : {A B C : Type 0} (f : B → C) (g : A → List B) (xs : List A) → map f (flat_map g xs) ≡ flat_map (λ x. map f (g x)) xs
map-flat_map f g [] = refl
map-flat_map f g (x ∷ xs) = map-append f (g x) (flat_map g xs) ∙ ap (λ l. map f (g x) ++ l) (map-flat_map f g xs)

-- sums put together by key, each under another key
abbrev pub regrouped : (TableKey → TableKey) → KeyedSums → KeyedSums
regrouped g es = map (under g) (map (made_of (λ k. sums_together (steps_at key_cmp k es))) (keys_in key_cmp es))

-- so are rows, where each goes under another key
pub rows-regrouped : (g : TableKey → TableKey) (es : KeyedSums) → map (λ (row : Row). record { key = g row.key; step = row.sums }) (rows_of es) ≡ regrouped g es
rows-regrouped g es = keys (keys_in key_cmp es)
  where
    keys : (ks : List TableKey) → map (λ (row : Row). record { key = g row.key; step = row.sums }) (map row_of (map (λ k. (k, sums_together (steps_at key_cmp k es))) ks)) ≡ map (under g) (map (made_of (λ k. sums_together (steps_at key_cmp k es))) ks)
    keys [] = refl
    keys (k ∷ ks) = ap (λ l. record { key = g k; step = sums_together (steps_at key_cmp k es) } ∷ l) (keys ks)

-- the rows of sums add up as these do
pub rows-back : (es : KeyedSums) → AddUpAlike (keyed_rows (rows_of es)) es
rows-back es =
    subst (λ l. AddUpAlike l es) (sym (rows-regrouped (λ k. k) es))
    (subst (AddUpAlike (regrouped (λ k. k) es)) (map-id es) (AddUpAlike-grouped key_cmp_total key_cmp-same (λ k. k) es))

-- sums behind the rows of others are behind these
pub rows-then : (sums more : KeyedSums) → rows_of (keyed_rows (rows_of sums) ++ more) ≡ rows_of (sums ++ more)
rows-then sums more = rows_of-alike (keyed_rows (rows_of sums) ++ more) (sums ++ more) (AddUpAlike-append (keyed_rows (rows_of sums)) more sums more (rows-back sums) (AddUpAlike-refl more))

-- so are the rows of sums
pub rows-behind : (sums more : KeyedSums) → rows_of (sums ++ keyed_rows (rows_of more)) ≡ rows_of (sums ++ more)
rows-behind sums more = rows_of-alike (sums ++ keyed_rows (rows_of more)) (sums ++ more) (AddUpAlike-append sums (keyed_rows (rows_of more)) sums more (AddUpAlike-refl sums) (rows-back more))

-- a number of counts that are added is that of these together
module _ (f : TableCounts → ℕ) (adds : (all : List TableCounts) → f (counts_together all) ≡ sum_by f all) where
  number-lists : (lists : List (List Run)) → f (counts_together (map (λ list. counts_together (map counts_of list)) lists)) ≡ f (counts_together (map counts_of (flat_map (λ list. list) lists)))
  number-lists lists = adds (map (λ list. counts_together (map counts_of list)) lists) ∙ each lists ∙ sym (adds (map counts_of (flat_map (λ list. list) lists)))
    where
      each : (lists : List (List Run)) → sum_by f (map (λ list. counts_together (map counts_of list)) lists) ≡ sum_by f (map counts_of (flat_map (λ list. list) lists))
      each [] = refl
      each (list ∷ lists) =
          sum_by-cons f (counts_together (map counts_of list)) (map (λ list. counts_together (map counts_of list)) lists)
          ∙ ap₂ (λ a b. a + b) (adds (map counts_of list)) (each lists)
          ∙ sym (ap (sum_by f) (map-append counts_of list (flat_map (λ list. list) lists)) ∙ sum_by-append f (map counts_of list) (map counts_of (flat_map (λ list. list) lists)))

-- counts, where each number of them is the same
pub counts-same : (a b : TableCounts) → ((f : TableCounts → ℕ) → ((all : List TableCounts) → f (counts_together all) ≡ sum_by f all) → f a ≡ f b) → a ≡ b
counts-same a b same =
    let runs = same (λ (counts : TableCounts). counts.runs) (λ all. refl) in
    let files = same (λ (counts : TableCounts). counts.files) (λ all. refl) in
    let unread = same (λ (counts : TableCounts). counts.unread) (λ all. refl) in
    let accepted_count = same (λ (counts : TableCounts). counts.entries.accepted) (sum_by-map (λ (row : CountRow). row.accepted) (λ (counts : TableCounts). counts.entries)) in
    let refused = same (λ (counts : TableCounts). counts.entries.refused) (sum_by-map (λ (row : CountRow). row.refused) (λ (counts : TableCounts). counts.entries)) in
    let skipped = same (λ (counts : TableCounts). counts.entries.skipped) (sum_by-map (λ (row : CountRow). row.skipped) (λ (counts : TableCounts). counts.entries)) in
    let queries = same (λ (counts : TableCounts). counts.entries.queries) (sum_by-map (λ (row : CountRow). row.queries) (λ (counts : TableCounts). counts.entries)) in
    let seals = same (λ (counts : TableCounts). counts.entries.seals) (sum_by-map (λ (row : CountRow). row.seals) (λ (counts : TableCounts). counts.entries)) in
    λ i. record {
      runs = runs i;
      files = files i;
      unread = unread i;
      entries = record { accepted = accepted_count i; refused = refused i; skipped = skipped i; queries = queries i; seals = seals i };
    }

-- the tables of lists of runs, added, are the table of all these runs together
pub add_tables-table_of : AddingLosesNothing
add_tables-table_of schema lists = λ i. record { schema = schema; counts = all_counts i; rows = rows i }
  where
    all_counts : counts_together (map (λ (table : SpanTable). table.counts) (map (table_of schema) lists)) ≡ counts_together (map counts_of (flat_map (λ list. list) lists))
    all_counts = ap counts_together (map-map (λ (table : SpanTable). table.counts) (table_of schema) lists)
        ∙ counts-same (counts_together (map (λ list. counts_together (map counts_of list)) lists)) (counts_together (map counts_of (flat_map (λ list. list) lists))) (λ f adds. number-lists f adds lists)

    rows : rows_of (flat_map (λ (table : SpanTable). keyed_rows table.rows) (map (table_of schema) lists)) ≡ rows_of (flat_map (schema_sums schema) (flat_map (λ list. list) lists))
    rows = ap rows_of (flat_map-map (λ (table : SpanTable). keyed_rows table.rows) (table_of schema) lists)
        ∙ rows_of-alike (flat_map (λ list. keyed_rows (rows_of (flat_map (schema_sums schema) list))) lists) (flat_map (λ list. flat_map (schema_sums schema) list) lists)
        (AddUpAlike-flat_map (λ list. keyed_rows (rows_of (flat_map (schema_sums schema) list))) (λ list. flat_map (schema_sums schema) list) (λ list. rows-back (flat_map (schema_sums schema) list)) lists)
        ∙ ap rows_of (sym (flat_map-flat_map (schema_sums schema) (λ list. list) lists))

picked-map : {A B : Type 0} (f : A → B) (xs : List A) (ps : List ℕ) → picked ps (map f xs) ≡ map f (picked ps xs)
picked-map f xs [] = refl
picked-map {A = A} f xs (p ∷ ps) = ap₂ cons_option (slice_get-map f xs p) (picked-map f xs ps) ∙ by (slice_get xs p) (picked ps xs)
  where
    by : (o : Option A) (l : List A) → cons_option (option_map f o) (map f l) ≡ map f (cons_option o l)
    by None l = refl
    by (Some x) l = refl

module _ (places : List ℕ) (columns : List Column) where
  thread_picked : (run : Run) (thread : Thread) → map (under (picked places)) (thread_sums columns run thread) ≡ thread_sums (picked places columns) run thread
  thread_picked run thread =
      let spans = closed_spans (thread_events thread run.journal) in
      map-map (under (picked places)) (keyed_span columns run thread spans) (timed_spans run.journal thread)
      ∙ (λ i. map (λ (t : Timed). record { key = picked-map (value_at run thread (called t.span) (option_map called (parent_of spans t.span))) columns places i; step = sums_of spans t }) (timed_spans run.journal thread))

  run_picked : (of : Of) (run : Run) → map (under (picked places)) (run_sums of columns run) ≡ run_sums of (picked places columns) run
  run_picked Spans run =
      map-flat_map (under (picked places)) (thread_sums columns run) (thread_keys (accepted run.journal))
      ∙ (λ i. flat_map (λ thread. thread_picked run thread i) (thread_keys (accepted run.journal)))
  run_picked Async run =
      map-map (under (picked places)) (keyed_async columns run) (async_rows run.journal)
      ∙ (λ i. map (λ (row : AsyncRow). record { key = picked-map (async_value_at run row.key) columns places i; step = (keyed_async columns run row).step }) (async_rows run.journal))

module _ (choice : Choice) (schema : Schema) (are : AreAmong choice.numbers schema.numbers) where
  abbrev sums_of_runs : List Run → KeyedSums
  sums_of_runs runs = flat_map (schema_sums schema) runs

  -- a run with what is chosen
  run-chosen : (run : Run) → map (with_only choice.numbers) (map (under (picked choice.places)) (schema_sums schema run)) ≡ schema_sums (schema_by choice schema) run
  run-chosen run = each (run_sums schema.of schema.columns run) ∙ ap (map (with_only choice.numbers)) (run_picked choice.places schema.columns schema.of run)
    where
      each : (es : KeyedSums) → map (with_only choice.numbers) (map (under (picked choice.places)) (map (with_only schema.numbers) es)) ≡ map (with_only choice.numbers) (map (under (picked choice.places)) es)
      each [] = refl
      each (e ∷ es) = ap₂ (λ (s : Sums) (l : KeyedSums). record { key = picked choice.places e.key; step = s } ∷ l) (only-among choice.numbers schema.numbers e.step are) (each es)

  runs-chosen : (runs : List Run) → map (with_only choice.numbers) (map (under (picked choice.places)) (sums_of_runs runs)) ≡ flat_map (schema_sums (schema_by choice schema)) runs
  runs-chosen runs =
      ap (map (with_only choice.numbers)) (map-flat_map (under (picked choice.places)) (schema_sums schema) runs)
      ∙ map-flat_map (with_only choice.numbers) (λ run. map (under (picked choice.places)) (schema_sums schema run)) runs ∙ (λ i. flat_map (λ run. run-chosen run i) runs)

  rows-chosen : (runs : List Run) → rows_of (map (keyed_by choice) (rows_of (sums_of_runs runs))) ≡ rows_of (flat_map (schema_sums (schema_by choice schema)) runs)
  rows-chosen runs =
      let es = sums_of_runs runs in
      let g = picked choice.places in
      ap rows_of (sym (map-map (with_only choice.numbers) (λ (row : Row). record { key = g row.key; step = row.sums }) (rows_of es)) ∙ ap (map (with_only choice.numbers)) (rows-regrouped g es))
      ∙ rows_of-alike (map (with_only choice.numbers) (regrouped g es)) (map (with_only choice.numbers) (map (under g) es)) (AddUpAlike-only choice.numbers (regrouped g es) (map (under g) es) (AddUpAlike-grouped key_cmp_total key_cmp-same g es))
      ∙ ap rows_of (runs-chosen runs)

-- a table by fewer columns and numbers is the table by more, with the others dropped
pub table_of-chosen : DroppingAdds
table_of-chosen choice schema runs are = λ i. record { schema = schema_by choice schema; counts = counts_together (map counts_of runs); rows = rows-chosen choice schema are runs i }

-- what lists of sums come to is the same in whatever order these come
total-moved : {A : Type 0} (f : A → Sums) (xs ys : List A) → IsPermutation xs ys → total f xs ≡ total f ys
total-moved {A = A} f xs ys moved = same_numbers (total f xs) (total f ys) each
  where
    number : (n : Sums → ℕ) → ((a b : Sums) → n (with_sums a b) ≡ n a + n b) → n no_sums ≡ 0 → n (total f xs) ≡ n (total f ys)
    number n adds none = number-total n adds none f xs ∙ sym (sum_by-IsPermutation (λ x. n (f x)) xs ys moved) ∙ sym (number-total n adds none f ys)

    longest-above : (n : ℕ) (zs : List A) → nat_lt n (total f zs).longest ≡ list_any (λ x. nat_lt n (f x).longest) zs
    longest-above n [] = grind arith
    longest-above n (z ∷ zs) = above-max n (f z).longest (total f zs).longest ∙ ap (λ b. nat_lt n (f z).longest || b) (longest-above n zs)

    longest-same : ((n : ℕ) → nat_lt n (total f xs).longest ≡ nat_lt n (total f ys).longest) → (total f xs).longest ≡ (total f ys).longest
    longest-same same = nat-same (total f xs).longest (total f ys).longest same

    each : (n : Number) → number_by n (total f xs) ≡ number_by n (total f ys)
    each Longest = longest-same (λ n. longest-above n xs ∙ list_any-IsPermutation (λ x. nat_lt n (f x).longest) xs ys moved ∙ sym (longest-above n ys))
    each n = number (number_by n) (λ a b. refl) refl

-- what adds up over some is the same in whatever order they come
module _ {A : Type 0} (F : A → KeyedSums) where
  module _ (k : TableKey) where
    keys-each : (xs : List A) → has_key key_cmp k (step_keys (flat_map F xs)) ≡ list_any (λ x. has_key key_cmp k (step_keys (F x))) xs
    keys-each [] = refl
    keys-each (x ∷ xs) =
        ap (has_key key_cmp k) (map-append (λ (e : Keyed TableKey Sums). e.key) (F x) (flat_map F xs)) ∙ has_key-append key_cmp k (step_keys (F x)) (step_keys (flat_map F xs))
        ∙ ap (λ b. has_key key_cmp k (step_keys (F x)) || b) (keys-each xs)

    tally-each : (xs : List A) → tally key_cmp k (flat_map F xs) ≡ total (λ x. tally key_cmp k (F x)) xs
    tally-each [] = refl
    tally-each (x ∷ xs) = tally-append key_cmp k (F x) (flat_map F xs) ∙ ap (with_sums (tally key_cmp k (F x))) (tally-each xs)

    module _ (xs ys : List A) (moved : IsPermutation xs ys) where
      keys-moved : has_key key_cmp k (step_keys (flat_map F xs)) ≡ has_key key_cmp k (step_keys (flat_map F ys))
      keys-moved = keys-each xs ∙ list_any-IsPermutation (λ x. has_key key_cmp k (step_keys (F x))) xs ys moved ∙ sym (keys-each ys)

      sums-moved : tally key_cmp k (flat_map F xs) ≡ tally key_cmp k (flat_map F ys)
      sums-moved = tally-each xs ∙ total-moved (λ x. tally key_cmp k (F x)) xs ys moved ∙ sym (tally-each ys)

  pub AddUpAlike-moved : (xs ys : List A) → IsPermutation xs ys → AddUpAlike (flat_map F xs) (flat_map F ys)
  AddUpAlike-moved xs ys moved = record {
    there = λ k h. sym (keys-moved k xs ys moved) ∙ h;
    back = λ k h. keys-moved k xs ys moved ∙ h;
    sums = λ k. sums-moved k xs ys moved;
  }

-- so are the sums of rows
pub AddUpAlike-rows : (rows mixed : List Row) → IsPermutation rows mixed → AddUpAlike (keyed_rows rows) (keyed_rows mixed)
AddUpAlike-rows rows mixed moved =
    subst (λ es. AddUpAlike es (keyed_rows mixed)) (each rows) (subst (AddUpAlike (flat_map (λ row. keyed_row row ∷ []) rows)) (each mixed) (AddUpAlike-moved (λ (row : Row). keyed_row row ∷ []) rows mixed moved))
  where
    each : (xs : List Row) → flat_map (λ (row : Row). keyed_row row ∷ []) xs ≡ keyed_rows xs
    each [] = refl
    each (x ∷ xs) = ap (λ es. keyed_row x ∷ es) (each xs)

-- a table is the same for runs in whatever order
pub table_of-moved : OrderIsNothing
table_of-moved schema runs other moved = λ i. record { schema = schema; counts = all_counts i; rows = rows i }
  where
    all_counts : counts_together (map counts_of runs) ≡ counts_together (map counts_of other)
    all_counts = counts-same (counts_together (map counts_of runs)) (counts_together (map counts_of other))
        (λ f adds. adds (map counts_of runs) ∙ sym (sum_by-IsPermutation f (map counts_of runs) (map counts_of other) (IsPermutation-map counts_of runs other moved)) ∙ sym (adds (map counts_of other)))

    rows : rows_of (flat_map (schema_sums schema) runs) ≡ rows_of (flat_map (schema_sums schema) other)
    rows = rows_of-alike (flat_map (schema_sums schema) runs) (flat_map (schema_sums schema) other) (AddUpAlike-moved (schema_sums schema) runs other moved)

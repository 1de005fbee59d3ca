-- The rows of a table of runs are those of what it sums, so what is printed of it can be read back.
use Rattle.std.specs.{Prelude.⊤, Cmp.{IsTotalOrder, eq_by_cmp_equiv}, List.{list_all, list_any}, Ordering.is_eq, declared.cmp.Ordering.Ordering}
use Rattle.std.proofs.{Common.{◌≡◌, ◌+◌, ◌<◌, ◌==◌, Bool, true, false, cond, not, ◌&&◌, ◌||◌, List, [], ◌∷◌, All, Contains, filter, flat_map, get_or, is_some, length, map, Option, Some, None, option_map, refl, sym, ap, ap₂, subst, ◌∙◌, arith}, lemmas.{Bool.{and_parts, eqb-true}, List.{length-map, Elements.{All-append, All-contains, All-contains_itself, All-filter, All-head, All-map, All-nil, All-tail, All-weaker}}, Map.Views.list_any-from_Contains}}
use Rattle.span_event.specs.declared.thread.Thread.{Thread}
use Rattle.span_keyed_tracks.proofs.{Keyed.has_key, SameKeys.{All-ascending, step_keys}, Uses.is_eq-turned}
use Rattle.span_table.specs.{Sums.{no_sums, sums_of_async, with_sums}, Tables.sums_of}
use Rattle.span_table.proofs.{Only.{number_by-only, only-again, only-together, only-with_sums}, Rows.RowsRise-rows_of, SomeAsync.async_rows-some, Tallies.{tally, tally-cons}}
use Rattle.span_table_text.specs.{Words, Bytes, Unit, AsyncKey, Keyed, entry_of, keys_in, steps_at, accepted, async_rows, names_of, thread_events, thread_keys, Timed, timed_spans, Span, closed_spans, parent_of, Called, called, Column, Pid, Tid, Process, Thread as OfThread, Name, File, Cat, Scope, Id, Argument, ParentName, ParentArgument, Of, Spans, Async, Number, Count, Closed, Open, Points, Sums, Row, Run, AreAmong, async_value_at, goes_with, has_number, only, value_at, key_cmp_total, TableKey, key_cmp, KeyedSums, RowsRise, Schema, SpanTable, keyed_async, keyed_span, longest_async, row_of, rows_of, run_sums, schema_sums, sums_together, table_of, thread_sums, with_only, Json.shown_table, Printed.{AllFit, AllIsPrinted, HasFile, HasOwn, HasSome, HaveFiles, IsKeyOf, IsOfLegal, IsName, IsOfArgument, IsPart, IsPrint, IsSchema, IsTable, IsWords, KeyFits, MayHave, PrintsAreParts, counted, counts_of}, Shown.{Wanted, is_wanted, key_has, wants_all}}
use Rattle.span_table_text.proofs.{Determined.{HasOwnNumbers, HasWholeKeys, prints-determined}, PrintedLines.numbers_fit-each, Ranked.filter-sorted}

-- what holds of all that each gives holds of all that they give
pub All-flat_map : {A B : Type 0} (P : B → Type 0) (f : A → List B) (xs : List A) → All (λ x. All P (f x)) xs → All P (flat_map f xs)
All-flat_map P f [] all = All-nil P
All-flat_map P f (x ∷ xs) all =
    All-append P (f x) (flat_map f xs) (All-head (λ y. All P (f y)) x xs all) (All-flat_map P f xs (All-tail (λ y. All P (f y)) x xs all))

-- what every value has, those of a list have
All-every : {A : Type 0} (P : A → Type 0) → ((x : A) → P x) → (xs : List A) → All P xs
All-every P each xs = λ k d low. each (get_or xs k d)

-- what counts tell is added as sums are
counted-with_sums : (of : Of) (a b : Sums) → counted of (with_sums a b) ≡ counted of a + counted of b
counted-with_sums Spans a b = refl
counted-with_sums Async a b = omega arith

-- numbers among which its counts are tell the same of a key
pub counted-only : (of : Of) (numbers : List Number) (s : Sums) → AreAmong (counts_of of) numbers → counted of (only numbers s) ≡ counted of s
counted-only Spans numbers s told = number_by-only numbers Count s (and_parts (has_number numbers Count) true told).0
counted-only Async numbers s told =
    let one = and_parts (has_number numbers Closed) _ told in
    let two = and_parts (has_number numbers Open) _ one.1 in
    let three = and_parts (has_number numbers Points) true two.1 in
    λ i. number_by-only numbers Closed s one.0 i + (number_by-only numbers Open s two.0 i + number_by-only numbers Points s three.0 i)

-- where each step counts something, so do those of a key that has one
module _ {K : Type 0} {cmp : K → K → Ordering} (o : IsTotalOrder cmp) (of : Of) where
  tally-some : (key : K) (es : List (Keyed K Sums)) → All (λ (e : Keyed K Sums). 0 < counted of e.step) es → has_key cmp key (step_keys es) ≡ true → 0 < counted of (tally cmp key es)
  tally-some key [] each has = absurd cc
  tally-some key (e ∷ es) each has = by (is_eq (cmp key e.key)) refl (tally-some key es (All-tail (λ (x : Keyed K Sums). 0 < counted of x.step) e es each))
    where
      own : (b : Bool) → is_eq (cmp e.key key) ≡ b → counted of (tally cmp key (e ∷ es)) ≡ counted of (cond b e.step no_sums) + counted of (tally cmp key es)
      own b is = ap (counted of) (tally-cons cmp key e es ∙ ap (λ c. with_sums (cond c e.step no_sums) (tally cmp key es)) is) ∙ counted-with_sums of (cond b e.step no_sums) (tally cmp key es)

      by : (b : Bool) → is_eq (cmp key e.key) ≡ b → (has_key cmp key (step_keys es) ≡ true → 0 < counted of (tally cmp key es)) → 0 < counted of (tally cmp key (e ∷ es))
      by true h rest = omega (arith, All-head (λ (x : Keyed K Sums). 0 < counted of x.step) e es each, own true (is_eq-turned o e.key key ∙ h))
      by false h rest =
          let later = rest (sym (ap (λ b. b || has_key cmp key (step_keys es)) h) ∙ has) in
          omega (arith, later, own false (is_eq-turned o e.key key ∙ h))

-- what holds of each key of sums, with what the sums of this key come to, holds of each row
All-rows : (P : Row → Type 0) (es : KeyedSums) → ((k : TableKey) → Contains (step_keys es) k → P (record { key = k; sums = sums_together (steps_at key_cmp k es) })) → All P (rows_of es)
All-rows P es each =
    let keys = keys_in key_cmp es in
    let made = entry_of (λ (k : TableKey). sums_together (steps_at key_cmp k es)) in
    let known = All-weaker (Contains (step_keys es)) (λ k. P (row_of (made k))) each (step_keys es) (All-contains_itself (step_keys es)) in
    All-map P row_of (map made keys) (All-map (λ (e : TableKey × Sums). P (row_of e)) made keys (All-ascending key_cmp (λ k. P (row_of (made k))) (step_keys es) known))

-- what holds of each step holds of those of a key
All-steps : (P : Sums → Type 0) (k : TableKey) (es : KeyedSums) → All (λ (e : Keyed TableKey Sums). P e.step) es → All P (steps_at key_cmp k es)
All-steps P k es each =
    All-map P (λ (e : Keyed TableKey Sums). e.step) (filter (λ (e : Keyed TableKey Sums). is_eq (key_cmp e.key k)) es) (All-filter (λ (e : Keyed TableKey Sums). is_eq (key_cmp e.key k)) (λ (e : Keyed TableKey Sums). P e.step) es each)

-- what holds of the keys of sums holds of those of the rows
All-keys : (P : TableKey → Type 0) (es : KeyedSums) → All (λ (e : Keyed TableKey Sums). P e.key) es → All (λ (row : Row). P row.key) (rows_of es)
All-keys P es each = All-rows (λ row. P row.key) es (λ k has. All-contains P (step_keys es) k (All-map P (λ (e : Keyed TableKey Sums). e.key) es each) has)

-- what everything has that a table sums of a run, under its key
abbrev OfRun : Of → List Column → (Keyed TableKey Sums → Type 0) → Run → Type 0
OfRun Spans columns P run = (thread : Thread) (spans : List (Span Bytes)) (t : Timed) → P (keyed_span columns run thread spans t)
OfRun Async columns P run = All (λ row. P (keyed_async columns run row)) (async_rows run.journal)

module _ (columns : List Column) (P : Keyed TableKey Sums → Type 0) where
  All-thread : (run : Run) (thread : Thread) → ((spans : List (Span Bytes)) (t : Timed) → P (keyed_span columns run thread spans t)) → All P (thread_sums columns run thread)
  All-thread run thread each =
      let spans = closed_spans (thread_events thread run.journal) in
      let timed = timed_spans run.journal thread in
      All-map P (keyed_span columns run thread spans) timed (All-every (λ t. P (keyed_span columns run thread spans t)) (each spans) timed)

  All-run : (of : Of) (run : Run) → OfRun of columns P run → All P (run_sums of columns run)
  All-run Spans run each =
      let threads = thread_keys (accepted run.journal) in
      All-flat_map P (thread_sums columns run) threads (All-every (λ thread. All P (thread_sums columns run thread)) (λ thread. All-thread run thread (each thread)) threads)
  All-run Async run each = All-map P (keyed_async columns run) (async_rows run.journal) each

-- what everything has that a table of a schema sums of a run
module _ (schema : Schema) (P : Keyed TableKey Sums → Type 0) where
  abbrev kept : Keyed TableKey Sums → Type 0
  kept e = P (with_only schema.numbers e)

  -- what that of each run has, that of all runs has
  All-runs : (runs : List Run) → All (OfRun schema.of schema.columns kept) runs → All P (flat_map (schema_sums schema) runs)
  All-runs runs each = All-flat_map P (schema_sums schema) runs
      (All-weaker (OfRun schema.of schema.columns kept) (λ run. All P (schema_sums schema run)) (λ run has. All-map P (with_only schema.numbers) (run_sums schema.of schema.columns run) (All-run schema.columns kept schema.of run has)) runs each)

  All-runs-every : ((run : Run) → OfRun schema.of schema.columns kept run) → (runs : List Run) → All P (flat_map (schema_sums schema) runs)
  All-runs-every each runs = All-runs runs (All-every (OfRun schema.of schema.columns kept) each runs)

named : (name : Option Bytes) → IsName (option_map Words name)
named None = tt
named (Some name) = tt

words : (file : Option Bytes) → is_some file ≡ true → IsWords (option_map Words file)
words None some = absurd cc
words (Some file) some = tt

-- a key that a table may have, if its numbers have 64 bits: each value then is one that its column may have
abbrev pub MayBeKey : List Column → TableKey → Type 0
MayBeKey [] [] = ⊤
MayBeKey (column ∷ columns) (value ∷ key) = (IsOfArgument value → MayHave column value) × MayBeKey columns key
MayBeKey columns key = ⊥

IsKeyOf-fits : (columns : List Column) (key : TableKey) → MayBeKey columns key → KeyFits columns key → IsKeyOf columns key
IsKeyOf-fits [] [] may fits = tt
IsKeyOf-fits [] (value ∷ key) may fits = absurd may
IsKeyOf-fits (column ∷ columns) [] may fits = absurd may
IsKeyOf-fits (column ∷ columns) (value ∷ key) may fits = (may.0 fits.0, IsKeyOf-fits columns key may.1 fits.1)

pub MayBeKey-is : (columns : List Column) (key : TableKey) → IsKeyOf columns key → MayBeKey columns key
MayBeKey-is [] [] is = tt
MayBeKey-is [] (value ∷ key) is = absurd is
MayBeKey-is (column ∷ columns) [] is = absurd is
MayBeKey-is (column ∷ columns) (value ∷ key) is = (λ fits. is.0, MayBeKey-is columns key is.1)

-- sums under a key that a table by these columns may have, if the numbers of the key have 64 bits
pub record Suits (schema : Schema) (sums : Keyed TableKey Sums) : Type 0 where
  pub key : MayBeKey schema.columns sums.key
  pub own : HasOwn schema sums.step
  pub some : HasSome schema sums.step

-- rows are sums, each under its key
abbrev pub row_sums : Row → Keyed TableKey Sums
row_sums row = record { key = row.key; step = row.sums }

-- rows that a table may have, if their numbers have 64 bits
pub record HasRows (table : SpanTable) : Type 0 where
  pub each : All (λ row. Suits table.schema (row_sums row)) table.rows
  pub rise : RowsRise table.rows

-- no row has a number that a table doesn't have, where no sums have it
All-own : (schema : Schema) (es : KeyedSums) → All (λ (e : Keyed TableKey Sums). HasOwn schema e.step) es → All (λ (row : Row). HasOwn schema row.sums) (rows_of es)
All-own schema es own = All-rows (λ row. HasOwn schema row.sums) es (λ k has. together (steps_at key_cmp k es) (All-steps (HasOwn schema) k es own))
  where
    together : (sums : List Sums) → All (HasOwn schema) sums → sums_together sums ≡ only schema.numbers (sums_together sums)
    together [] each = sym (only-together schema.numbers [])
    together (s ∷ sums) each =
        ap₂ with_sums (All-head (HasOwn schema) s sums each) (together sums (All-tail (HasOwn schema) s sums each)) ∙ sym (only-with_sums schema.numbers s (sums_together sums))

-- where all sums count something, so do all rows
All-some : (schema : Schema) (es : KeyedSums) → All (λ (e : Keyed TableKey Sums). HasSome schema e.step) es → All (λ (row : Row). HasSome schema row.sums) (rows_of es)
All-some schema es some =
    All-rows (λ row. HasSome schema row.sums) es
    (λ k has told. tally-some key_cmp_total schema.of k es (λ i d low. some i d low told) (list_any-from_Contains (eq_by_cmp_equiv key_cmp_total) k (step_keys es) has))

-- the rows of sums that suit its schema are those that a table may have
pub HasRows-rows_of : (table : SpanTable) (es : KeyedSums) → table.rows ≡ rows_of es → All (Suits table.schema) es → HasRows table
HasRows-rows_of table es are suits =
    let keys = All-keys (MayBeKey table.schema.columns) es (λ k d low. (suits k d low).key) in
    let own = All-own table.schema es (λ k d low. (suits k d low).own) in
    let some = All-some table.schema es (λ k d low. (suits k d low).some) in
    record {
      each = subst (All (λ (row : Row). Suits table.schema (row_sums row))) (sym are) (λ k d low. record { key = keys k d low; own = own k d low; some = some k d low });
      rise = subst RowsRise (sym are) (RowsRise-rows_of es);
    }

-- so are those of them that are shown
pub HasRows-shown : (wanted : Wanted) (table : SpanTable) → HasRows table → HasRows (shown_table wanted table)
HasRows-shown wanted table has =
    let shown = λ (row : Row). is_wanted wanted row.key in
    record {
      each = All-filter shown (λ (row : Row). Suits table.schema (row_sums row)) table.rows has.each;
      rise = filter-sorted (λ (a b : Row). key_cmp a.key b.key) shown table.rows has.rise;
    }

-- a table that has such rows, whose numbers have 64 bits, can be read back
pub IsTable-fits : (table : SpanTable) → IsSchema table.schema → HasRows table → AllFit table → IsTable table
IsTable-fits table are has fits =
    let numbers = numbers_fit-each table fits.numbers in
    record {
      schema = are;
      counts = numbers.0;
      few = fits.few;
      rows = λ k d low. let row = has.each k d low in record { key = IsKeyOf-fits table.schema.columns (get_or table.rows k d).key row.key (fits.keys k d low); own = row.own; some = row.some; fits = numbers.1 k d low };
      rise = has.rise;
    }

-- so what is printed of it is a part
pub IsPart-print : (unit : Unit) (text : Bytes) (table : SpanTable) → IsSchema table.schema → HasRows table → IsPrint unit text table → IsPart unit text table
IsPart-print unit text table are has print = record { is = IsTable-fits table are has print.fits; utf8 = print.utf8; printed = print.printed }

called-IsName : (parent : Option Called) → IsName (option_map (λ (p : Called). Words p.name) parent)
called-IsName None = tt
called-IsName (Some p) = tt

module _ (run : Run) (thread : Thread) (span : Called) (parent : Option Called) where
  -- a value that a span has in a column is one that the column may have, if a number has 64 bits
  value_at-MayHave : (column : Column) → goes_with Spans column ≡ true → HasFile run column → IsOfArgument (value_at run thread span parent column) → MayHave column (value_at run thread span parent column)
  value_at-MayHave Pid suited file fits = fits
  value_at-MayHave Tid suited file fits = fits
  value_at-MayHave Process suited file fits = named (names_of run.journal (thread.pid, None)).name
  value_at-MayHave OfThread suited file fits = named (names_of run.journal (thread.pid, Some thread.tid)).name
  value_at-MayHave Name suited file fits = tt
  value_at-MayHave File suited file fits = words run.file file
  value_at-MayHave Cat suited file fits = absurd (cc suited)
  value_at-MayHave Scope suited file fits = absurd (cc suited)
  value_at-MayHave Id suited file fits = absurd (cc suited)
  value_at-MayHave (Argument key) suited file fits = fits
  value_at-MayHave ParentName suited file fits = called-IsName parent
  value_at-MayHave (ParentArgument key) suited file fits = fits

  key-MayBeKey : (columns : List Column) → All (λ column. goes_with Spans column ≡ true) columns → All (HasFile run) columns → MayBeKey columns (map (value_at run thread span parent) columns)
  key-MayBeKey [] suited files = tt
  key-MayBeKey (column ∷ columns) suited files =
      let goes = λ (c : Column). goes_with Spans c ≡ true in (
        value_at-MayHave column (All-head goes column columns suited) (All-head (HasFile run) column columns files),
        key-MayBeKey columns (All-tail goes column columns suited) (All-tail (HasFile run) column columns files),
      )

module _ (run : Run) (key : AsyncKey) where
  -- so is one that an asynchronous key has
  async_value_at-MayHave : (column : Column) → goes_with Async column ≡ true → HasFile run column → MayHave column (async_value_at run key column)
  async_value_at-MayHave Cat suited file = tt
  async_value_at-MayHave Scope suited file = tt
  async_value_at-MayHave Id suited file = tt
  async_value_at-MayHave Name suited file = tt
  async_value_at-MayHave File suited file = words run.file file
  async_value_at-MayHave column suited file = absurd (cc suited)

  async_key-MayBeKey : (columns : List Column) → All (λ column. goes_with Async column ≡ true) columns → All (HasFile run) columns → MayBeKey columns (map (async_value_at run key) columns)
  async_key-MayBeKey [] suited files = tt
  async_key-MayBeKey (column ∷ columns) suited files =
      let goes = λ (c : Column). goes_with Async c ≡ true in (
        λ fits. async_value_at-MayHave column (All-head goes column columns suited) (All-head (HasFile run) column columns files),
        async_key-MayBeKey columns (All-tail goes column columns suited) (All-tail (HasFile run) column columns files),
      )

module _ (schema : Schema) where
  abbrev columns : List Column
  columns = schema.columns

  abbrev numbers : List Number
  numbers = schema.numbers

  -- each key of what is summed has a value for each column
  run-whole : (of : Of) (run : Run) → OfRun of columns (λ e. length e.key ≡ length columns) run
  run-whole Spans run = λ thread spans t. length-map columns (value_at run thread (called t.span) (option_map called (parent_of spans t.span)))
  run-whole Async run = λ k d low. length-map columns (async_value_at run (get_or (async_rows run.journal) k d).key)

  -- it has no numbers but those of the schema
  run-own : (of : Of) (run : Run) → OfRun of columns (λ e. HasOwn schema (only numbers e.step)) run
  run-own Spans run = λ thread spans t. sym (only-again schema.numbers (sums_of spans t))
  run-own Async run = λ k d low. let row = get_or (async_rows run.journal) k d in sym (only-again schema.numbers (sums_of_async row (longest_async run.journal row.key)))

  -- counts that tell something of a key tell it with the numbers of the schema alone
  some-only : (of : Of) → schema.of ≡ of → (s : Sums) → 0 < counted of s → HasSome schema (only numbers s)
  some-only of is s some = λ told. omega (arith, some, counted-only schema.of schema.numbers s told, ap (λ o. counted o s) is)

  run-Suits : (of : Of) → schema.of ≡ of → All (λ column. goes_with of column ≡ true) columns → (run : Run) → All (HasFile run) columns → IsOfLegal run → OfRun of columns (λ e. Suits schema (with_only numbers e)) run
  run-Suits Spans is suited run files legal = λ thread spans t. record {
    key = key-MayBeKey run thread (called t.span) (option_map called (parent_of spans t.span)) columns suited files;
    own = run-own Spans run thread spans t;
    some = some-only Spans is (sums_of spans t) (omega arith);
  }
  run-Suits Async is suited run files legal = λ k d low.
      let row = get_or (async_rows run.journal) k d in
      record {
        key = async_key-MayBeKey run row.key columns suited files;
        own = run-own Async run k d low;
        some = some-only Async is (sums_of_async row (longest_async run.journal row.key)) (async_rows-some legal.0 run.journal legal.1 k d low);
      }

  module _ (runs : List Run) where
    pub table_of-HasWholeKeys : HasWholeKeys (table_of schema runs)
    table_of-HasWholeKeys =
        All-keys (λ key. length key ≡ length columns) (flat_map (schema_sums schema) runs)
        (All-runs-every schema (λ e. length e.key ≡ length columns) (run-whole schema.of) runs)

    -- no row has a number that the schema doesn't have
    pub table_of-HasOwnNumbers : HasOwnNumbers (table_of schema runs)
    table_of-HasOwnNumbers = All-own schema (flat_map (schema_sums schema) runs) (All-runs-every schema (λ e. HasOwn schema e.step) (run-own schema.of) runs)

    -- what a table sums of runs that have their files suits its schema
    runs-Suits : All (λ column. goes_with schema.of column ≡ true) columns → HaveFiles columns runs → All IsOfLegal runs → All (Suits schema) (flat_map (schema_sums schema) runs)
    runs-Suits suited files legal = All-runs schema (Suits schema) runs (λ k d low. run-Suits schema.of refl suited (get_or runs k d) (files k d low) (legal k d low))

module _ (schema : Schema) (runs : List Run) where
  -- a table that was read of what is printed of runs is the table of these
  pub IsPart-table_of : (unit second : Unit) (text : Bytes) (part : SpanTable) → IsPart unit text part → IsPrint second text (table_of schema runs) → (unit ≡ second) × (part ≡ table_of schema runs)
  IsPart-table_of unit second text part is print =
      prints-determined unit second text part (table_of schema runs) is print (table_of-HasWholeKeys schema runs) (table_of-HasOwnNumbers schema runs)

  pub table_of-HasRows : All (λ column. goes_with schema.of column ≡ true) schema.columns → HaveFiles schema.columns runs → All IsOfLegal runs → HasRows (table_of schema runs)
  table_of-HasRows suited files legal = HasRows-rows_of (table_of schema runs) (flat_map (schema_sums schema) runs) refl (runs-Suits schema runs suited files legal)

-- so what is printed of the rows that are shown of such runs is a part
pub prints-parts : PrintsAreParts
prints-parts unit schema runs wanted text are files legal print =
    let table = table_of schema runs in
    IsPart-print unit text (shown_table wanted table) are (HasRows-shown wanted table (table_of-HasRows schema runs are.columns.suited files legal)) print

filter-every : {A : Type 0} (p : A → Bool) → ((x : A) → p x ≡ true) → (xs : List A) → filter p xs ≡ xs
filter-every p each [] = refl
filter-every p each (x ∷ xs) = ap (λ b. cond b (x ∷ filter p xs) (filter p xs)) (each x) ∙ ap (λ l. x ∷ l) (filter-every p each xs)

-- where all rows are wanted, what is shown of a table is the whole table
pub shown_table-all : (wanted : Wanted) (table : SpanTable) → wants_all wanted ≡ true → shown_table wanted table ≡ table
shown_table-all wanted table all = λ i. record { schema = table.schema; counts = table.counts; rows = filter-every (λ (row : Row). is_wanted wanted row.key) (λ row. each row.key) table.rows i }
  where
    none : (texts : List Bytes) → (length texts == 0) ≡ true → texts ≡ []
    none [] e = refl
    none (text ∷ texts) e = absurd (let no = eqb-true (length (text ∷ texts)) 0 e in omega (arith, no))

    each : (key : TableKey) → is_wanted wanted key ≡ true
    each key =
        let both = and_parts (length wanted.only == 0) (length wanted.skip == 0) all in
        ap₂ (λ (only skip : List Bytes). list_all (key_has key) only && not (list_any (key_has key) skip)) (none wanted.only both.0) (none wanted.skip both.1)

-- so the print of what is shown is its print
pub print-shown : AllIsPrinted
print-shown unit wanted table text all print = subst (IsPrint unit text) (shown_table-all wanted table all) print

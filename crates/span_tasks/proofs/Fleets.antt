-- Whatever a fleet prints is the table of the runs of all its files.
use Rattle.std.specs.{List.AllZip, Prelude.{flat_map, IfSome}}
use Rattle.std.proofs.{Common.{◌≡◌, ◌⊎◌, ℕ, ◌+◌, ◌<◌, ◌≤◌, Bool, true, false, cond, List, [], ◌∷◌, All, Contains, filter, length, map, take, Some, inl, inr, refl, sym, ap, ap₂, subst, ◌∙◌, arith}, lemmas.List.{append-nil, length-take, take_all, Elements.{All-filter, All-head, All-tail}}}
use Rattle.span_table.proofs.{AddedTables.table_of-moved, Rows.RowsRise-rows_of}
use Rattle.span_narrowing.proofs.Plain.{narrowed-plain, summed_by-plain}
use Rattle.span_table_text.specs.{Printed.{AreDistinct, HasOwn}, Shown.is_wanted, Json.text_of}
use Rattle.span_table_text.proofs.{Determined.prints-determined, RunTables.{shown_table-all, table_of-HasOwnNumbers, table_of-HasWholeKeys}}
use Rattle.span_table.specs.{Columns.column_name, Tables.schema_sums, Adding.{add_tables, chosen_from}, declared.table.Row.Row}
use Rattle.span_parts.proofs.{Places.picked-at, PrintedSums.sum-HasRows, RunSums.{sum-runs, sum-shown}}
use Rattle.span_request.specs.declared.tasks.Items.TheVariants.{Printed}
use Rattle.span_tasks.specs.{Bytes, Settings, run_alone, run_of_files, shorter, Chooses, IsPart, IsPrint, Listed, Name, PartSum, Run, Schema, SumsParts, SourceBytes, TimeUnit, SpanTable, TableOptions, Narrowing, Wanted, is_plain, narrowed, schema_by, shown_table, table_of, chosen, AreParts, Added.{AreOfFirst, IsText, most_added, with_sum}, Summed.{asked_of, schema_of, summed_of, tested_in}, Tabulations.MakesJson, Fleet.{AreRunsOf, AreRunsOfEach, Fleet, Fleets, FleetsLoseNothing, FleetsPrintAlike, KeepsColumns, PrintEach, ShowEach, TableKind, all_rows, asked_schema, kind_of, kind_of_first, more, of_files, of_printed, one}}

-- the one table of a list
pub only-same : (first other : SpanTable) → first ∷ [] ≡ other ∷ [] → first ≡ other
only-same first other same = cc

-- what is asked for, a first table has
pub Chooses-first : (source : SourceBytes) (options : TableOptions) (names : List Name) (parts : PartSum) → AreOfFirst source options names parts → Chooses (asked_of options) parts
Chooses-first source options [] parts of = absurd of
Chooses-first source options (name ∷ later) parts of = of.0

-- a table of a side is the one that was gathered, narrowed
pub only-narrowed : (narrowing : Narrowing) (tables : List SpanTable) (table all : SpanTable) → tables ≡ table ∷ [] → tables ≡ map (narrowed narrowing) (all ∷ []) → table ≡ narrowed narrowing all
only-narrowed narrowing tables table all only narrows = only-same table (narrowed narrowing all) (sym only ∙ narrows)

-- a text that is added is all that its name stands for
texts-held : (source : SourceBytes) (names : List Name) (texts held : List Bytes) → AllZip (IsText source) names texts → AllZip (λ name text. source name ≡ Some text) names held → texts ≡ held
texts-held source [] [] [] read known = refl
texts-held source [] (text ∷ texts) held read known = absurd read
texts-held source [] [] (text ∷ held) read known = absurd known
texts-held source (name ∷ names) [] held read known = absurd read
texts-held source (name ∷ names) (text ∷ texts) [] read known = absurd known
texts-held source (name ∷ names) (text ∷ texts) (own ∷ held) read known = ap₂ (λ t l. t ∷ l) same (texts-held source names texts held read.1 known.1)
  where
    taken : text ≡ take (most_added + 1) own
    taken = subst (λ all. IfSome all (λ bytes. text ≡ take (most_added + 1) bytes)) known.0 read.0.read

    same : text ≡ own
    same = taken ∙ take_all (most_added + 1) own (whole-le (most_added + 1) own (let within = subst (λ (t : Bytes). length t ≤ most_added) taken read.0.within in omega (arith, within)))
      where
        whole-le : (n : ℕ) (bytes : Bytes) → length (take n bytes) < n → length bytes ≤ n
        whole-le n bytes within = omega (arith, within, length-take n bytes)

-- what is printed of a part is the table that is read of it
part-same : (unit second : TimeUnit) (schema : Schema) (wanted : Wanted) (runs : List Run) (text : Bytes) (table : SpanTable) → IsPart unit text table → IsPrint second text (shown_table wanted (table_of schema runs))
    → (unit ≡ second) × (table ≡ shown_table wanted (table_of schema runs))
part-same unit second schema wanted runs text table is print =
    prints-determined unit second text table (shown_table wanted all) is print (All-filter shown (λ (row : Row). length row.key ≡ length schema.columns) all.rows (table_of-HasWholeKeys schema runs))
    (All-filter shown (λ (row : Row). HasOwn schema row.sums) all.rows (table_of-HasOwnNumbers schema runs))
  where
    all : SpanTable
    all = table_of schema runs

    shown : Row → Bool
    shown row = is_wanted wanted row.key

-- rows that are shown are shown once more, or all of them
filter-again : {A : Type 0} (p : A → Bool) (xs : List A) → filter p (filter p xs) ≡ filter p xs
filter-again p [] = refl
filter-again {A = A} p (x ∷ xs) = by (p x) refl (filter-again p xs)
  where
    by : (b : Bool) → p x ≡ b → filter p (filter p xs) ≡ filter p xs → filter p (cond b (x ∷ filter p xs) (filter p xs)) ≡ cond b (x ∷ filter p xs) (filter p xs)
    by true e rest = ap (λ b. cond b (x ∷ filter p (filter p xs)) (filter p (filter p xs))) e ∙ ap (λ l. x ∷ l) rest
    by false e rest = rest

shown-again : (wanted : Wanted) (table : SpanTable) → shown_table wanted (shown_table wanted table) ≡ shown_table wanted table
shown-again wanted table = λ i. record { schema = table.schema; counts = table.counts; rows = filter-again (λ (row : Row). is_wanted wanted row.key) table.rows i }

-- what stands for a fleet: the runs of its files, whose table it prints
abbrev HasRuns : Wanted → Fleet → Bytes → Type 0
HasRuns wanted fleet text = (runs : List Run) × AreRunsOf fleet runs × IsPrint (kind_of fleet).unit text (shown_table wanted (table_of (kind_of fleet).schema runs))

-- the runs of a part, whose table was read
record OwnRuns (wanted : Wanted) (known : TableKind) (part : Fleet) (printed : SpanTable) : Type 0 where
  pub runs : List Run
  pub are : AreRunsOf part runs
  pub kind : kind_of part ≡ known
  pub table : printed ≡ shown_table wanted (table_of known.schema runs)
  pub distinct : AreDistinct (map column_name known.schema.columns)

-- those of each part
record HaveRuns (wanted : Wanted) (known : TableKind) (parts : Fleets) (printed : List SpanTable) : Type 0 where
  pub lists : List (List Run)
  pub are : AreRunsOfEach parts (flat_map (λ runs. runs) lists)
  pub kind : kind_of_first parts ≡ known
  pub tables : printed ≡ map (λ runs. shown_table wanted (table_of known.schema runs)) lists
  pub distinct : AreDistinct (map column_name known.schema.columns)

-- the runs of a part whose text was read
part-whole : (wanted : Wanted) (kind : TableKind) (part : Fleet) (text : Bytes) (table : SpanTable) → HasRuns wanted part text → IsPart kind.unit text table → table.schema ≡ kind.schema →
    OwnRuns wanted kind part table
part-whole wanted kind part text table found is own =
    let same = part-same kind.unit (kind_of part).unit (kind_of part).schema wanted found.0 text table is found.2 in
    let by : (kind_of part).schema ≡ kind.schema = sym (ap (λ (t : SpanTable). t.schema) same.1) ∙ own in
    record {
      runs = found.0;
      are = found.1;
      kind = λ i. record { unit = sym same.0 i; schema = by i };
      table = same.1 ∙ (λ i. shown_table wanted (table_of (by i) found.0));
      distinct = subst (λ (schema : Schema). AreDistinct (map column_name schema.columns)) own is.is.schema.columns.distinct;
    }

-- what is printed of files
files-print : (settings : Settings) (options : TableOptions) (wanted : Wanted) (runs : List Run) (text : Bytes) (unit : TimeUnit) (table : SpanTable) → options.shown ≡ wanted → unit ≡ settings.format.unit
    → table ≡ table_of (schema_of options) runs → IsPrint unit text (shown_table options.shown table)
    → IsPrint settings.format.unit text (shown_table wanted (table_of (schema_of options) runs))
files-print settings options wanted runs text unit table shows in_unit is print =
    let all = table_of (schema_of options) runs in
    subst (λ (u : TimeUnit). IsPrint u text (shown_table wanted all)) in_unit
    (subst (λ (w : Wanted). IsPrint unit text (shown_table w all)) shows (subst (λ (t : SpanTable). IsPrint unit text (shown_table options.shown t)) is print))

-- the table of runs, of which nothing is narrowed
plain-table : (options : TableOptions) (runs : List Run) → is_plain options.narrowing ≡ true → narrowed options.narrowing (table_of (summed_of options) runs) ≡ table_of (schema_of options) runs
plain-table options runs plain =
    narrowed-plain options.narrowing (table_of (summed_of options) runs) plain (RowsRise-rows_of (flat_map (schema_sums (summed_of options)) runs))
    ∙ ap (λ columns. table_of (record { of = options.of; columns = columns; numbers = (schema_of options).numbers }) runs) (summed_by-plain options.narrowing plain options.columns.items)

-- the kind of what is added
abbrev kind_of_sum : PartSum → TableKind
kind_of_sum parts = record { unit = parts.unit; schema = parts.schema }

module _ (wanted : Wanted) (source : SourceBytes) (options : TableOptions) (files : Listed) (parts : Fleets) (text : Bytes) (plain : is_plain options.narrowing ≡ true) (prints : MakesJson source Printed options files text) where
  abbrev own_parts : PartSum
  own_parts = prints.one.is.gathered.parts

  abbrev own_sum : SpanTable
  own_sum = prints.one.is.gathered.is.1.0

  abbrev own_schema : Schema
  own_schema = asked_schema options own_parts.schema

  own-chooses : Chooses (asked_of options) own_parts
  own-chooses = Chooses-first source options files.names.items own_parts prints.one.is.gathered.kind

  own-by : schema_by own_parts.choice own_parts.schema ≡ own_schema
  own-by = λ i. record {
    of = own_parts.schema.of;
    columns = picked-at own_parts.choice.places own_schema.columns own_parts.schema.columns own-chooses.columns i;
    numbers = own-chooses.numbers i;
  }

  own-print : IsPrint own_parts.unit text (shown_table options.shown own_sum)
  own-print =
      let side = prints.one.is.gathered.is in
      let narrows = prints.one.is.narrows in
      let adds = side.1.1 in
      let table =
      only-narrowed options.narrowing prints.one.side.tables.items prints.one.table own_sum prints.one.only (narrows.tables ∙ ap (map (narrowed options.narrowing)) side.1.2)
      ∙ narrowed-plain options.narrowing own_sum plain (sum-HasRows adds.texts (with_sum own_parts own_sum) own-chooses.among adds.sums).rise in
      subst (λ (unit : TimeUnit). IsPrint unit text (shown_table options.shown own_sum)) (narrows.unit ∙ side.0.unit) (subst (λ (t : SpanTable). IsPrint prints.one.side.unit text (shown_table options.shown t)) table prints.is)

  -- the sum of tables of runs, of which these are shown
  sum-of_runs : (runs : List Run) → AreRunsOfEach parts runs → kind_of_first parts ≡ kind_of_sum own_parts → shown_table options.shown own_sum ≡ shown_table wanted (table_of own_schema runs) →
      HasRuns wanted (of_printed source options files parts) text
  sum-of_runs runs are kind shown = (
    runs,
    are,
    subst (λ (k : TableKind). IsPrint k.unit text (shown_table wanted (table_of (asked_schema options k.schema) runs))) (sym kind) (subst (IsPrint own_parts.unit text) shown own-print),
  )

  -- the tables that are added
  module _ (texts : List Bytes) (sums : SumsParts texts (with_sum own_parts own_sum)) where
    sum-all : HaveRuns all_rows (kind_of_sum own_parts) parts sums.parts → options.shown ≡ wanted → HasRuns wanted (of_printed source options files parts) text
    sum-all have shows =
        let added = sums.adds ∙ ap (λ l. add_tables (schema_by own_parts.choice own_parts.schema) (map (chosen_from own_parts.choice) l)) (have.tables ∙ whole have.lists)
        ∙ sum-runs own_schema own_parts.schema own_parts.choice own-chooses.columns own-chooses.among have.lists
        ∙ ap (λ schema. table_of schema (flat_map (λ runs. runs) have.lists)) own-by in
        sum-of_runs (flat_map (λ runs. runs) have.lists) have.are have.kind (ap₂ shown_table shows added)
      where
        whole : (lists : List (List Run)) → map (λ runs. shown_table all_rows (table_of own_parts.schema runs)) lists ≡ map (table_of own_parts.schema) lists
        whole [] = refl
        whole (runs ∷ lists) = ap₂ (λ (t : SpanTable) l. t ∷ l) (shown_table-all all_rows (table_of own_parts.schema runs) refl) (whole lists)

    sum-each : HaveRuns wanted (kind_of_sum own_parts) parts sums.parts → KeepsColumns options parts → (options.shown ≡ wanted) ⊎ (options.shown ≡ all_rows) → HasRuns wanted (of_printed source options files parts) text
    sum-each have keeps shows =
        let kept = subst (λ (k : TableKind). All (Contains (chosen options.columns.items (tested_in options) k.schema.columns)) k.schema.columns) have.kind keeps in
        let added = sums.adds ∙ ap (λ l. add_tables (schema_by own_parts.choice own_parts.schema) (map (chosen_from own_parts.choice) l)) have.tables
        ∙ sum-shown own_schema own_parts.schema own_parts.choice own-chooses.columns own-chooses.among wanted kept have.distinct have.lists
        ∙ ap (λ schema. shown_table wanted (table_of schema (flat_map (λ runs. runs) have.lists))) own-by in
        sum-of_runs (flat_map (λ runs. runs) have.lists) have.are have.kind (ap (shown_table options.shown) added ∙ again (table_of own_schema (flat_map (λ runs. runs) have.lists)) shows)
      where
        again : (table : SpanTable) → (options.shown ≡ wanted) ⊎ (options.shown ≡ all_rows) → shown_table options.shown (shown_table wanted table) ≡ shown_table wanted table
        again table (inl same) = ap (λ (w : Wanted). shown_table w (shown_table wanted table)) same ∙ shown-again wanted table
        again table (inr all) = ap (λ (w : Wanted). shown_table w (shown_table wanted table)) all ∙ shown_table-all all_rows (shown_table wanted table) refl

mutual
  -- whatever a fleet prints is the table of the runs of all its files
  pub fleets-whole : FleetsLoseNothing
  fleets-whole wanted (of_files source true settings options files) text (plain, shows) prints =
      let side = prints.one.is.gathered.is in
      let narrows = prints.one.is.narrows in
      let runs = map (shorter files.cut) (map (run_alone settings) side.1.files) in
      let table =
      only-narrowed options.narrowing prints.one.side.tables.items prints.one.table (table_of (summed_of options) runs) prints.one.only (narrows.tables ∙ ap (map (narrowed options.narrowing)) side.1.runs)
      ∙ plain-table options runs plain in
      (runs, (side.1.files, side.1.read, side.1.accounted, refl), files-print settings options wanted runs text prints.one.side.unit prints.one.table shows (narrows.unit ∙ side.0.unit) table prints.is)
  fleets-whole wanted (of_files source false settings options files) text (plain, shows) prints =
      let side = prints.one.is.gathered.is in
      let narrows = prints.one.is.narrows in
      let run = side.1.run in
      let runs = run_of_files run.inputs.items run.collected.end.ends.items run.collected.ledger.journal ∷ [] in
      let table =
      only-narrowed options.narrowing prints.one.side.tables.items prints.one.table (table_of (summed_of options) runs) prints.one.only (narrows.tables ∙ ap (map (narrowed options.narrowing)) side.1.is)
      ∙ plain-table options runs plain in
      (runs, (run, side.1.ended, refl), files-print settings options wanted runs text prints.one.side.unit prints.one.table shows (narrows.unit ∙ side.0.unit) table prints.is)
  fleets-whole wanted (of_printed source options files parts) text (plain, inl (shows, all)) (prints, (texts, held, each)) =
      let adds = prints.one.is.gathered.is.1.1 in
      let own = prints.one.is.gathered.parts in
      let sums = subst (λ ts. SumsParts ts (with_sum own prints.one.is.gathered.is.1.0)) (texts-held source files.names.items adds.texts texts adds.read held) adds.sums in
      sum-all wanted source options files parts text plain prints texts sums (parts-whole all_rows (kind_of_sum own) parts texts sums.parts all each sums.are sums.schemas) shows
  fleets-whole wanted (of_printed source options files parts) text (plain, inr (shows, keeps, shown)) (prints, (texts, held, each)) =
      let adds = prints.one.is.gathered.is.1.1 in
      let own = prints.one.is.gathered.parts in
      let sums = subst (λ ts. SumsParts ts (with_sum own prints.one.is.gathered.is.1.0)) (texts-held source files.names.items adds.texts texts adds.read held) adds.sums in
      sum-each wanted source options files parts text plain prints texts sums (parts-whole wanted (kind_of_sum own) parts texts sums.parts shown each sums.are sums.schemas) keeps shows

  parts-whole : (wanted : Wanted) (kind : TableKind) (parts : Fleets) (texts : List Bytes) (tables : List SpanTable) → ShowEach wanted parts → PrintEach parts texts → AreParts kind.unit texts tables →
      All (λ table. table.schema ≡ kind.schema) tables → HaveRuns wanted kind parts tables
  parts-whole wanted kind (one part) [] tables shows prints are schemas = absurd prints
  parts-whole wanted kind (one part) (text ∷ (next ∷ texts)) tables shows prints are schemas = absurd prints
  parts-whole wanted kind (one part) (text ∷ []) [] shows prints are schemas = absurd are
  parts-whole wanted kind (one part) (text ∷ []) (table ∷ (next ∷ tables)) shows prints are schemas = absurd are.1
  parts-whole wanted kind (one part) (text ∷ []) (table ∷ []) shows prints are schemas =
      let own = part-whole wanted kind part text table (fleets-whole wanted part text shows prints) are.0 (All-head (λ t. t.schema ≡ kind.schema) table [] schemas) in
      record { lists = own.runs ∷ []; are = subst (AreRunsOf part) (sym (append-nil own.runs)) own.are; kind = own.kind; tables = ap (λ (t : SpanTable). t ∷ []) own.table; distinct = own.distinct }
  parts-whole wanted kind (more part parts) [] tables shows prints are schemas = absurd prints
  parts-whole wanted kind (more part parts) (text ∷ texts) [] shows prints are schemas = absurd are
  parts-whole wanted kind (more part parts) (text ∷ texts) (table ∷ tables) shows prints are schemas =
      let own = part-whole wanted kind part text table (fleets-whole wanted part text shows.0 prints.0) are.0 (All-head (λ t. t.schema ≡ kind.schema) table tables schemas) in
      let later = parts-whole wanted kind parts texts tables shows.1 prints.1 are.1 (All-tail (λ t. t.schema ≡ kind.schema) table tables schemas) in
      record {
        lists = own.runs ∷ later.lists;
        are = (own.runs, flat_map (λ runs. runs) later.lists, own.are, later.are, refl);
        kind = own.kind;
        tables = ap₂ (λ (t : SpanTable) l. t ∷ l) own.table later.tables;
        distinct = own.distinct;
      }

-- two fleets of the same files print alike
pub fleets-alike : FleetsPrintAlike
fleets-alike wanted fleet other text other_text same kinds shows others prints other_prints =
    let first = fleets-whole wanted fleet text shows prints in
    let second = fleets-whole wanted other other_text others other_prints in
    let moved = table_of-moved (kind_of fleet).schema first.0 second.0 (same first.0 second.0 first.1 second.1) in
    first.2.printed ∙ ap (λ (t : SpanTable). text_of (kind_of fleet).unit (shown_table wanted t)) moved
    ∙ ap (λ (k : TableKind). text_of k.unit (shown_table wanted (table_of k.schema second.0))) kinds ∙ sym second.2.printed

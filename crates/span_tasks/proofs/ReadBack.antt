-- What is printed as JSON Lines can be read back, and added.
use Rattle.std.specs.{List.list_any, Prelude.{All, Contains, IfSome, slice_get}}
use Rattle.std.proofs.{Common.{◌≡◌, ◌⊎◌, ℕ, zero, suc, ◌+◌, ◌&&◌, ◌||◌, Bool, true, false, cond, not, List, [], ◌∷◌, ◌++◌, get_or, length, map, take, Some, inl, inr, refl, ap, ap₂, sym, subst, ◌∙◌, arith, true≢false}, lemmas.{Bool.or_parts, List.{append-nil, take_all, Elements.{All-append, All-contains, All-cons, All-head, All-map, All-nil, All-tail, Contains-append_right}}}}
use Rattle.span_event.specs.Text.{Bytes}
use Rattle.span_table_text.specs.{AskedNumbers.{in_order, named_or, with_first}, Printed.{AreNumbers, HasFile, HaveFiles, IsOfLegal}}
use Rattle.span_table_text.proofs.{Determined.parts-determined, RunTables.{HasRows, HasRows-shown, IsPart-print, table_of-HasRows}}
use Rattle.span_narrowing.specs.Narrowed.{narrowed}
use Rattle.span_narrowing.proofs.Suited.{HasRows-narrowed, narrowed-schema}
use Rattle.span_parts.specs.Sum.{named_or_all}
use Rattle.span_parts.proofs.{Places.{AreAt-each, picked-at}, PrintedSums.sum-HasRows}
use Rattle.span_request.specs.{Condition, Options, Asked.Asked, Columns.is_file, Laws.{AddedTablesMayHaveThem, AddedTablesMayShowThem, ConditionsMayTestThem, TablesMayHaveThem, TablesMayShowThem}, Request.AreSound, Rules.takes_apart, Tasks.{IsOptions, settings_of}}
use Rattle.span_request.specs.declared.tasks.Items.{Items, TheVariants.{Apart, Printed, Together}}
use Rattle.span_table.specs.{Adding.AreAmong, Columns.goes_with, Numbers.{are_same, usual_numbers}, declared.{audience.Audience.{Audience, TheVariants.{People, Programs}}, number.Number.Number, of.Of.{Of, TheVariants.{Spans, Async}}}}
use Rattle.span_table.proofs.Numbers.{AreAmong-self, are_same-same}
use Rattle.span_table.specs.declared.column.Column.TheVariants as of
use Rattle.span_tasks.specs.{AreColumns, AskedNumbers, Chooses, Column, HasOtherSchema, Input, IsPart, IsPrint, IsSchema, LacksAsked, Listed, Name, PartSum, Run, Schema, Settings, SourceBytes, SpanTable, TableOptions, TimeUnit, chosen, printed, run_alone, run_of_files, shorter, shown_numbers, shown_table, summed_schema, table_of, unread_line, AreAt, Added.{AreOfFirst, AreTooMany, IsOfKind, IsRead, IsText, StopsAdding, StopsNext, most_added, with_sum}, ReadBack.{AsksNoNumbers, HasPart, JsonLinesAreParts, PartsAreAdded}, Summed.{asked_of, schema_of, summed_of, tested_in}, Tabulations.{MakesJson, PrintsText}}
use Rattle.span_tasks.proofs.{Fleets.only-narrowed, InTurn.journal_in_turn-legal}

-- each column stands somewhere among them
each-at : (columns : List Column) → (places : List ℕ) × AreAt places columns columns
each-at [] = ([], refl)
each-at (column ∷ columns) = let rest = each-at columns in (0 ∷ map suc rest.0, ap (λ l. Some column ∷ l) (later rest.0 ∙ rest.1))
  where
    later : (places : List ℕ) → map (slice_get (column ∷ columns)) (map suc places) ≡ map (slice_get columns) places
    later [] = refl
    later (place ∷ places) = ap (λ l. slice_get columns place ∷ l) (later places)

-- a table has its own numbers, in whatever order
in_order-among : (audience : Audience) (of : Of) (own : List Number) → AreAmong (in_order audience of own) own
in_order-among audience of own = by (are_same own (usual_numbers Programs of)) refl
  where
    usual : (audience : Audience) (of : Of) → AreAmong (usual_numbers audience of) (usual_numbers Programs of)
    usual People Spans = refl
    usual People Async = refl
    usual Programs Spans = refl
    usual Programs Async = refl

    by : (b : Bool) → are_same own (usual_numbers Programs of) ≡ b → AreAmong (cond b (usual_numbers audience of) own) own
    by true e = subst (AreAmong (usual_numbers audience of)) (sym (are_same-same own (usual_numbers Programs of) e)) (usual audience of)
    by false e = AreAmong-self own

-- so it has all that are shown of it where none are named
shown-among : (asked : AskedNumbers) (of : Of) (own : List Number) → AsksNoNumbers asked → AreAmong (shown_numbers asked of own) own
shown-among asked of own none =
    subst (λ numbers. AreAmong numbers own) (sym (ap₂ (λ (named : List Number) by. named_or named (with_first by (in_order asked.audience of own))) none.0 none.1)) (in_order-among asked.audience of own)

module _ (source : SourceBytes) (schema : Schema) (unit : TimeUnit) where
  -- the bytes that are read of a part are its text
  read-text : (name : Name) (has : HasPart source schema unit name) (text : Bytes) → IsRead source name text → text ≡ has.text
  read-text name has text read =
      subst (λ known. IfSome known (λ all. text ≡ take (most_added + 1) all)) has.known read ∙ take_all (most_added + 1) has.text (omega (arith, has.within))

  read-part : (name : Name) (has : HasPart source schema unit name) (text : Bytes) → IsRead source name text → IsPart unit text has.part
  read-part name has text read = subst (λ t. IsPart unit t has.part) (sym (read-text name has text read)) has.is

  -- where it is of no other kind, a part stops no adding, unless it isn't read
  StopsAdding-part : (IsOther : Bytes → Type 0) (name : Name) (lines : Bytes) (has : HasPart source schema unit name) → ((text : Bytes) → IsText source name text → IsOther text → ⊥) → StopsAdding source IsOther name lines
      → lines ≡ unread_line (printed name)
  StopsAdding-part IsOther name lines has none (inl (inl unread)) = unread
  StopsAdding-part IsOther name lines has none (inl (inr (inl (text, read, long, said)))) = absurd (let same = ap length (read-text name has text read) in omega (arith, same, long, has.within))
  StopsAdding-part IsOther name lines has none (inl (inr (inr (text, is, none_such, said)))) = absurd (none_such unit has.part (read-part name has text is.read))
  StopsAdding-part IsOther name lines has none (inr (text, is, other, said)) = absurd (none text is other)

  -- a part has all that is asked for where nothing is
  lacks-none : (options : TableOptions) (text : Bytes) → options.columns.items ≡ [] → options.narrowing.conditions.items ≡ [] → AsksNoNumbers options.numbers → LacksAsked (asked_of options) text → ⊥
  lacks-none options text all none numbers lacks =
      let own = lacks.part.schema in
      let at = each-at own.columns in
      let same = ap₂ (λ (named : List Column) (conditions : List Condition). named_or_all named own.columns ++ map (λ (c : Condition). c.column) conditions) all none ∙ append-nil own.columns in
      lacks.lacks (record { places = at.0; numbers = shown_numbers options.numbers own.of own.numbers })
      (record { columns = subst (λ columns. AreAt at.0 columns own.columns) (sym same) at.1; numbers = refl; among = shown-among options.numbers own.of own.numbers numbers })

  -- parts of the kind of such a part have its schema and its unit
  kind-same : (name : Name) (has : HasPart source schema unit name) (parts : PartSum) → IsOfKind source name parts → (parts.schema ≡ schema) × (parts.unit ≡ unit)
  kind-same name has parts (text, is, own) =
      let same = parts-determined unit parts.unit text has.part own.part (read-part name has text is.read) own.is in
      (sym own.by ∙ ap (λ (t : SpanTable). t.schema) (sym same.1) ∙ has.by, sym same.0)

  other-none : (name : Name) (has : HasPart source schema unit name) (parts : PartSum) → (parts.schema ≡ schema) × (parts.unit ≡ unit) → (text : Bytes) → IsText source name text
      → HasOtherSchema parts.schema parts.unit text → ⊥
  other-none name has parts kind text is other =
      let same = parts-determined unit other.own text has.part other.part (read-part name has text is.read) other.is in
      other.other (sym same.0 ∙ sym kind.1) (ap (λ (t : SpanTable). t.schema) (sym same.1) ∙ has.by ∙ sym kind.0)

-- parts of one kind are added
pub parts-added : PartsAreAdded
parts-added source schema unit options [] lines all none numbers some have stops = absurd (omega arith)
parts-added source schema unit options (name ∷ later) lines all none numbers some have (inl (inl stops)) =
    let has = All-head (HasPart source schema unit) name later have in
    inr (name, (0, omega arith, refl), StopsAdding-part source schema unit (LacksAsked (asked_of options)) name lines has (λ text is. lacks-none source schema unit options text all none numbers) stops)
parts-added source schema unit options (name ∷ later) lines all none numbers some have (inl (inr many)) = inl many
parts-added source schema unit options (name ∷ later) lines all none numbers some have (inr (parts, kind, inr many)) = inl many
parts-added source schema unit options (name ∷ later) lines all none numbers some have (inr (parts, kind, inl stops)) =
    let names = name ∷ later in
    let same = kind-same source schema unit name (All-head (HasPart source schema unit) name later have) parts kind.1 in
    by stops.later stops.split stops.cause same
  where
    by : (rest : List Name) → name ∷ later ≡ stops.done ++ rest → StopsNext source parts rest lines → (parts.schema ≡ schema) × (parts.unit ≡ unit) →
        AreTooMany (name ∷ later) lines ⊎ ((one : Name) × Contains (name ∷ later) one × (lines ≡ unread_line (printed one)))
    by [] split cause same = absurd cause
    by (one ∷ rest) split cause same =
        let here : Contains (name ∷ later) one = subst (λ names. Contains names one) (sym split) (Contains-append_right stops.done (one ∷ rest) one (0, omega arith, refl)) in
        let has = All-contains (HasPart source schema unit) (name ∷ later) one have here in
        inr (one, here, StopsAdding-part source schema unit (HasOtherSchema parts.schema parts.unit) one lines has (other-none source schema unit one has parts same) cause)

-- one run has no file's name, and needs none where that is no column
no-file : (run : Run) (columns : List Column) → list_any is_file columns ≡ false → All (HasFile run) columns
no-file run [] none = All-nil (HasFile run)
no-file run (column ∷ columns) none =
    let parts = or_parts (is_file column) _ none in
    All-cons (HasFile run) column columns (by column parts.0) (no-file run columns parts.1)
  where
    by : (column : Column) → is_file column ≡ false → HasFile run column
    by of.File e = absurd (true≢false e)
    by column e = tt

-- a file that is a run of its own has its name
own-file : (cut : ℕ) (settings : Settings) (columns : List Column) (file : Input) → All (HasFile (shorter cut (run_alone settings file))) columns
own-file cut settings columns file = λ k d low. by (get_or columns k d)
  where
    by : (column : Column) → HasFile (shorter cut (run_alone settings file)) column
    by of.File = refl
    by column = tt

-- of what stands before others holds what holds of all
All-front : {A : Type 0} (P : A → Type 0) (front back : List A) → All P (front ++ back) → All P front
All-front P [] back all = All-nil P
All-front P (x ∷ front) back all = All-cons P x front (All-head P x (front ++ back) all) (All-front P front back (All-tail P x (front ++ back) all))

module _ (source : SourceBytes) (options : TableOptions) (listed : Listed) (text : Bytes) where
  abbrev IsSomePart : Type 0
  IsSomePart = (unit : TimeUnit) × (part : SpanTable) × IsPart unit text part

  -- what is printed of a table that was narrowed, and then of its shown rows
  part-of_table : (unit : TimeUnit) (table all : SpanTable) → table ≡ narrowed options.narrowing all → HasRows all → IsSchema (narrowed options.narrowing all).schema → IsPrint unit text (shown_table options.shown table) → IsSomePart
  unfolding narrowed
  part-of_table unit table all is has are print =
      let own = narrowed options.narrowing all in (
        unit,
        shown_table options.shown own,
        IsPart-print unit text (shown_table options.shown own) are (HasRows-shown options.shown own (HasRows-narrowed options.narrowing all has)) (subst (λ (t : SpanTable). IsPrint unit text (shown_table options.shown t)) is print),
      )

  -- what is printed of runs
  part-of_runs : (unit : TimeUnit) (table : SpanTable) (runs : List Run) → table ≡ narrowed options.narrowing (table_of (summed_of options) runs) → IsSchema (schema_of options)
      → All (λ column. goes_with options.of column ≡ true) (summed_of options).columns → HaveFiles (summed_of options).columns runs → All IsOfLegal runs → IsPrint unit text (shown_table options.shown table) → IsSomePart
  part-of_runs unit table runs is are suited files legal =
      let all = table_of (summed_of options) runs in
      part-of_table unit table all is (table_of-HasRows (summed_of options) runs suited files legal)
      (subst IsSchema (sym (narrowed-schema options.narrowing (schema_of options) all refl)) are)

  -- one run's table
  part-of_run : (settings : Settings) → IsSchema (schema_of options) → All (λ column. goes_with options.of column ≡ true) (summed_of options).columns → list_any is_file (summed_of options).columns ≡ false
      → MakesJson source (Together settings) options listed text → IsSomePart
  part-of_run settings are suited none prints =
      let side = prints.one.is.gathered.is in
      let narrows = prints.one.is.narrows in
      let columns = (summed_of options).columns in
      let run = run_of_files side.1.run.inputs.items side.1.run.collected.end.ends.items side.1.run.collected.ledger.journal in
      let table =
      only-narrowed options.narrowing prints.one.side.tables.items prints.one.table (table_of (summed_of options) (run ∷ [])) prints.one.only (narrows.tables ∙ ap (map (narrowed options.narrowing)) side.1.is) in
      let files = All-cons (λ (r : Run). All (HasFile r) columns) run [] (no-file run columns none) (All-nil (λ (r : Run). All (HasFile r) columns)) in
      part-of_runs prints.one.side.unit prints.one.table (run ∷ []) table are suited files
      (All-cons IsOfLegal run [] (settings.strict, side.1.ended.is.account.legal) (All-nil IsOfLegal)) prints.is

  -- that of files apart
  part-of_files : (settings : Settings) → IsSchema (schema_of options) → All (λ column. goes_with options.of column ≡ true) (summed_of options).columns → MakesJson source (Apart settings) options listed text → IsSomePart
  part-of_files settings are suited prints =
      let side = prints.one.is.gathered.is in
      let narrows = prints.one.is.narrows in
      let columns = (summed_of options).columns in
      let files = side.1.files in
      let alone = map (run_alone settings) files in
      let runs = map (shorter listed.cut) alone in
      let table =
      only-narrowed options.narrowing prints.one.side.tables.items prints.one.table (table_of (summed_of options) runs) prints.one.only (narrows.tables ∙ ap (map (narrowed options.narrowing)) side.1.runs) in
      let have = All-map (λ (r : Run). All (HasFile r) columns) (shorter listed.cut) alone
      (All-map (λ (r : Run). All (HasFile (shorter listed.cut r)) columns) (run_alone settings) files
      (λ k d low. own-file listed.cut settings columns (get_or files k d))) in
      part-of_runs prints.one.side.unit prints.one.table runs table are suited have
      (All-map IsOfLegal (shorter listed.cut) alone (All-map (λ (r : Run). IsOfLegal (shorter listed.cut r)) (run_alone settings) files (λ k d low. (settings.strict, journal_in_turn-legal settings (get_or files k d ∷ [])))))
      prints.is

  -- that of added tables
  part-of_parts : ((own : Of) → All (λ column. goes_with own column ≡ true) options.columns.items → (options.columns.items ≡ []) ⊎ AreColumns own options.columns.items)
      → ((own : Schema) → AreNumbers own.of own.numbers → AreAmong (shown_numbers options.numbers own.of own.numbers) own.numbers → AreNumbers own.of (shown_numbers options.numbers own.of own.numbers)) → MakesJson source Printed options listed text → IsSomePart
  part-of_parts may show prints =
      let gathered = prints.one.is.gathered in
      let narrows = prints.one.is.narrows in
      let parts = gathered.parts in
      let first = first-kind parts listed.names.items gathered.kind in
      let sum = gathered.is.1.0 in
      let adds = gathered.is.1.1 in
      let own = subst IsSchema first.2.2.by first.2.2.is.is.schema in
      let chooses = first.1 in
      let shown : Schema = record { of = parts.schema.of; columns = named_or_all options.columns.items parts.schema.columns; numbers = parts.choice.numbers } in
      let are : IsSchema shown = record {
        columns = by_named options.columns.items parts.schema parts.choice.places own.columns chooses.columns may;
        numbers = subst (AreNumbers parts.schema.of) (sym chooses.numbers) (show parts.schema own.numbers (subst (λ numbers. AreAmong numbers parts.schema.numbers) chooses.numbers chooses.among));
      } in
      let by : sum.schema ≡ summed_schema shown options.narrowing = ap (λ (t : SpanTable). t.schema) adds.sums.adds
      ∙ (λ i. record {
        of = parts.schema.of;
        columns = picked-at parts.choice.places (chosen options.columns.items (tested_in options) parts.schema.columns) parts.schema.columns chooses.columns i;
        numbers = parts.choice.numbers;
      }) in
      let table = only-narrowed options.narrowing prints.one.side.tables.items prints.one.table sum prints.one.only (narrows.tables ∙ ap (map (narrowed options.narrowing)) gathered.is.1.2) in
      part-of_table prints.one.side.unit prints.one.table sum table (sum-HasRows adds.texts (with_sum parts sum) chooses.among adds.sums)
      (subst IsSchema (sym (narrowed-schema options.narrowing shown sum by)) are) prints.is
    where
      -- the first name, whose table is of the kind
      first-kind : (parts : PartSum) (names : List Name) → AreOfFirst source options names parts → (name : Name) × Chooses (asked_of options) parts × IsOfKind source name parts
      first-kind parts [] kind = absurd kind
      first-kind parts (name ∷ later) kind = (name, kind.0, kind.1)

      -- what is at a place has what all have
      all-got : {A : Type 0} (P : A → Type 0) (xs : List A) (place : ℕ) (x : A) → slice_get xs place ≡ Some x → All P xs → P x
      all-got P [] place x got all = absurd cc
      all-got P (y ∷ ys) zero x got all = let same : y ≡ x = cc in subst P same (All-head P y ys all)
      all-got P (y ∷ ys) (suc place) x got all = all-got P ys place x got (All-tail P y ys all)

      by_named : (named : List Column) (own : Schema) (places : List ℕ) → AreColumns own.of own.columns → AreAt places (chosen named (tested_in options) own.columns) own.columns
          → ((of : Of) → All (λ column. goes_with of column ≡ true) named → (named ≡ []) ⊎ AreColumns of named) → AreColumns own.of (named_or_all named own.columns)
      by_named [] own places are at may = are
      by_named (column ∷ named) own places are at may =
          let goes = λ (c : Column). goes_with own.of c ≡ true in
          let all : All goes ((column ∷ named) ++ tested_in options) = λ k d low. let place = AreAt-each places ((column ∷ named) ++ tested_in options) own.columns at k d low in all-got goes own.columns place.0 _ place.1 are.suited in
          elim (may own.of (All-front goes (column ∷ named) (tested_in options) all)) [
            | inl none ↦ absurd cc
            | inr have ↦ have
          ]

-- the columns of conditions, behind others
abbrev with_conditions : List Column → List Condition → List Column
with_conditions columns conditions = columns ++ map (λ (condition : Condition). condition.column) conditions

-- what no column is, nor that of a condition
with_conditions-none : (p : Column → Bool) (columns : List Column) (conditions : List Condition) → list_any p columns ≡ false → list_any (λ (c : Condition). p c.column) conditions ≡ false → list_any p (with_conditions columns conditions) ≡ false
with_conditions-none p [] [] none others = refl
with_conditions-none p [] (condition ∷ conditions) none others =
    let parts = or_parts (p condition.column) _ others in
    ap₂ (λ a b. a || b) parts.0 (with_conditions-none p [] conditions none parts.1)
with_conditions-none p (column ∷ columns) conditions none others =
    let parts = or_parts (p column) _ none in
    ap₂ (λ a b. a || b) parts.0 (with_conditions-none p columns conditions parts.1 others)

-- no file's name is a column of one run's table
file-none : (options : Options) (has : Bool) → (has && not (takes_apart options || options.add)) ≡ false → options.add ≡ false → takes_apart options ≡ false → has ≡ false
file-none options false rule own together = refl
file-none options true rule own together = absurd (true≢false (sym (ap₂ (λ apart add. not (apart || add)) together own) ∙ rule))

-- what options that are sound ask of a table of runs
module _ (options : Options) (asked : Asked) (sound : AreSound options asked) (table : TableOptions) (is : IsOptions options asked table) (own : options.add ≡ false) where
  columns-are : (summed_of table).columns ≡ with_conditions asked.columns asked.conditions
  columns-are = ap₂ with_conditions is.columns is.narrowing.conditions

  asked-suited : AreColumns asked.of asked.columns → All (λ (c : Condition). goes_with asked.of c.column ≡ true) asked.conditions → All (λ column. goes_with table.of column ≡ true) (summed_of table).columns
  asked-suited are tests =
      let goes = λ (column : Column). goes_with asked.of column ≡ true in
      subst (λ (of : Of). All (λ column. goes_with of column ≡ true) (summed_of table).columns) (sym is.of)
      (subst (All goes) (sym columns-are) (All-append goes asked.columns (map (λ (c : Condition). c.column) asked.conditions) are.suited (All-map goes (λ (c : Condition). c.column) asked.conditions tests)))

  asked-no_file : takes_apart options ≡ false → list_any is_file (summed_of table).columns ≡ false
  asked-no_file together =
      let columns = (or_parts _ _ (or_parts _ _ sound.suited).1).1 in
      let conditions = (or_parts _ _ sound.tested).1 in
      ap (list_any is_file) columns-are
      ∙ with_conditions-none is_file asked.columns asked.conditions (file-none options _ (or_parts _ _ columns).0 own together) (file-none options _ (or_parts _ _ conditions).0 own together)

pub json-parts : TablesMayHaveThem → AddedTablesMayHaveThem → ConditionsMayTestThem → TablesMayShowThem → AddedTablesMayShowThem → JsonLinesAreParts
json-parts made added tested show show_added source folders words task named outcome asks rows is below = elim is.1 [
  | inl ended ↦
      let of = ended.1.2 in
      let prints = subst (λ asked. PrintsText source task.items task.options of.base of.files asked outcome.output.items outcome.lines.items outcome.warnings.items) rows of.prints in
      by of.files prints.made options.add (takes_apart options) refl refl asks.2.2.1
  | inr stopped ↦ absurd (omega (arith, stopped.0, below))
]
  where
    options : Options
    options = asks.0

    asked : Asked
    asked = asks.2.0

    given : IsOptions options asked task.options
    given = asks.2.2.3

    suited : options.add ≡ false → All (λ column. goes_with task.options.of column ≡ true) (summed_of task.options).columns
    suited own = asked-suited options asked asks.2.1 task.options given own (made options asked asks.2.1 own) (tested options asked asks.2.1 own)

    columns : options.add ≡ false → AreColumns task.options.of task.options.columns.items
    columns own = subst (AreColumns task.options.of) (sym given.columns) (subst (λ (of : Of). AreColumns of asked.columns) (sym given.of) (made options asked asks.2.1 own))

    schema : options.add ≡ false → IsSchema (schema_of task.options)
    schema own = record {
      columns = columns own;
      numbers = subst (λ (of : Of). AreNumbers of (shown_numbers task.options.numbers of (usual_numbers Programs of))) (sym given.of) (show options asked task.options asks.2.1 own given);
    }

    may : options.add ≡ true → (own : Of) → All (λ column. goes_with own column ≡ true) task.options.columns.items → (task.options.columns.items ≡ []) ⊎ AreColumns own task.options.columns.items
    may adds own = subst (λ (cs : List Column). All (λ column. goes_with own column ≡ true) cs → (cs ≡ []) ⊎ AreColumns own cs) (sym given.columns) (added options own asked asks.2.1 adds)

    by : (listed : Listed) → MakesJson source task.items task.options listed outcome.output.items → (add apart : Bool) → options.add ≡ add → takes_apart options ≡ apart →
        task.items ≡ cond add Printed (cond apart (Apart (settings_of options)) (Together (settings_of options))) → (unit : TimeUnit) × (part : SpanTable) × IsPart unit outcome.output.items part
    by listed prints true apart adds takes items =
        part-of_parts source task.options listed outcome.output.items (may adds) (λ own are among. show_added options asked task.options own.of own.numbers asks.2.1 given are among) (subst (λ (i : Items). MakesJson source i task.options listed outcome.output.items) items prints)
    by listed prints false true own takes items =
        part-of_files source task.options listed outcome.output.items (settings_of options) (schema own) (suited own)
        (subst (λ (i : Items). MakesJson source i task.options listed outcome.output.items) items prints)
    by listed prints false false own takes items =
        part-of_run source task.options listed outcome.output.items (settings_of options) (schema own) (suited own)
        (asked-no_file options asked asks.2.1 task.options given own takes)
        (subst (λ (i : Items). MakesJson source i task.options listed outcome.output.items) items prints)

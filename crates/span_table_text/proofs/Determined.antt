-- Two tables that are printed alike are the same.
use Rattle.std.proofs.{Common.{◌≡◌, ◌≢◌, ℕ, ◌^◌, ◌<◌, ◌==◌, Bool, cond, false, true, List, [], ◌∷◌, ◌++◌, All, drop, flat_map, get_or, length, map, refl, sym, ap, subst, ◌∙◌, Some, None, append_assoc, arith, codes}, lemmas.{Fmt.{decimal_injective, signed_decimal_injective}, List.Elements.{All-head, All-tail, All-weaker}}}
use Rattle.json.specs.{Lex.tokens, Print.print, Token.{Token, begin_array, end_array, end_object, key, string}}
use Rattle.span_table.specs.Sums.{with_number}
use Rattle.span_table.proofs.Numbers.{are_same-same, number_by-small, number_name-same}
use Rattle.span_table_text.specs.{ArgValue, Nil, Flag, Whole, Words, Other, Bytes, Unit, Microseconds, Nanoseconds, Column, Pid, Tid, Process, Thread, Name, File, Cat, Scope, Id, Argument, ParentName, ParentArgument, TableCounts, Number, SelfTime, Of, Programs, Spans, Async, Sums, Row, are_same, column_name, counts_fit, fit, number_by, number_name, only, usual_numbers, Schema, TableKey, SpanTable, Json.{json_line, text_of}, Printed.{AllFit, AreDistinct, HasOwn, IsOfArgument, IsPart, IsPrint, IsRowOf, IsTable, PartsAreDetermined}, Tokens.{columns_tokens, head_tokens, key_tokens, list_tokens, name_tokens, numbers_tokens, of_tokens, row_tokens, sums_tokens, unit_tokens, value_tokens}}
use Rattle.span_table_text.proofs.PrintedLines.{AreSmall, IsDetermined, IsDeterminedKey, IsLine, IsRowOf-determined, counts_small, json_head-print, json_line-print, numbers_fit-each, print_head-IsLine, print_row-IsLine, tokens-head, tokens-row}

-- two texts are the same if their first lines are, and what follows these
line-determined : (a b r s : Bytes) → IsLine a → IsLine b → a ++ 10 ∷ r ≡ b ++ 10 ∷ s → (a ≡ b) × (r ≡ s)
line-determined [] [] r s h k e = (refl, ap (drop 1) e)
line-determined [] (y ∷ b) r s h k e = absurd (k.0 (sym (ap (λ l. get_or l 0 0) e)))
line-determined (x ∷ a) [] r s h k e = absurd (h.0 (ap (λ l. get_or l 0 0) e))
line-determined (x ∷ a) (y ∷ b) r s h k e =
    let same : x ≡ y = ap (λ l. get_or l 0 0) e in
    let rest = line-determined a b r s h.1 k.1 (ap (drop 1) e) in
    (λ i. same i ∷ rest.0 i, rest.1)

-- the column that is called so
column_called : Bytes → Column
column_called name =
    cond (get_or name 0 0 == 97) (Argument (drop 5 name))
    (cond (get_or name 0 0 == 99) Cat
    (cond (get_or name 0 0 == 102) File
    (cond (get_or name 0 0 == 105) Id
    (cond (get_or name 0 0 == 110) Name
    (cond (get_or name 0 0 == 112) (cond (get_or name 1 0 == 105) Pid (cond (get_or name 1 0 == 97) (cond (get_or name 7 0 == 110) ParentName (ParentArgument (drop 12 name))) Process))
    (cond (get_or name 0 0 == 115) Scope (cond (get_or name 1 0 == 105) Tid Thread)))))))

column_called-name : (column : Column) → column_called (column_name column) ≡ column
unfolding column_called
column_called-name Pid = refl
column_called-name column = refl

-- two columns with the same name are the same
pub column_name-injective : (column other : Column) → column_name column ≡ column_name other → column ≡ other
column_name-injective column other e = sym (column_called-name column) ∙ ap column_called e ∙ column_called-name other

-- no column is called as a number is: it would be another's
pub column_name-not_number : (number : Number) (column : Column) → column_name column ≢ number_name number
unfolding column_called
column_name-not_number number column e = by number (sym (ap column_name (sym (column_called-name column) ∙ ap column_called e)) ∙ e)
  where
    by : (number : Number) → column_name (column_called (number_name number)) ≡ number_name number → ⊥
    by SelfTime same = omega (arith, ap length same)
    by number same = omega (arith, ap length same)

names-determined : (columns others : List Column) (ts us : List Token) → name_tokens columns ++ end_array ∷ ts ≡ name_tokens others ++ end_array ∷ us → (columns ≡ others) × (ts ≡ us)
names-determined [] [] ts us e = (refl, ap (drop 1) e)
names-determined [] (other ∷ others) ts us e = absurd (cc e)
names-determined (column ∷ columns) [] ts us e = absurd (cc e)
names-determined (column ∷ columns) (other ∷ others) ts us e =
    let called : column_name column ≡ column_name other = cc e in
    let same = column_name-injective column other called in
    let rest = names-determined columns others ts us (ap (drop 1) e) in
    (λ i. same i ∷ rest.0 i, rest.1)

value-determined : (value second : ArgValue) (ts us : List Token) → IsOfArgument (Some value) → IsOfArgument (Some second) → value_tokens value ++ ts ≡ value_tokens second ++ us → (value ≡ second) × (ts ≡ us)
value-determined Nil Nil ts us h k e = (refl, ap (drop 1) e)
value-determined (Flag flag) (Flag other) ts us h k e = let same : flag ≡ other = cc e in (ap Flag same, ap (drop 1) e)
value-determined (Whole whole) (Whole other) ts us h k e = (ap Whole (signed_decimal_injective whole other h.sfits k.sfits (cc e)), ap (drop 1) e)
value-determined (Words text) (Words other) ts us h k e = let same : text ≡ other = cc e in (ap Words same, ap (drop 1) e)
value-determined Other Other ts us h k e = (refl, ap (drop 2) e)
value-determined value second ts us h k e = absurd (cc e)

-- where a column that none of these is has a value, it stands first
missing-determined : (first : Bytes) (columns : List Column) (values : TableKey) (name : Bytes) (ts us : List Token) → All (λ other. name ≢ other) (map column_name columns) → name ≢ first
    → key_tokens columns values ++ key first ∷ ts ≡ key name ∷ us → ⊥
missing-determined first [] values name ts us h k e = k (let same : name ≡ first = cc e in same)
missing-determined first (column ∷ columns) [] name ts us h k e = k (let same : name ≡ first = cc e in same)
missing-determined first (column ∷ columns) (None ∷ values) name ts us h k e = missing-determined first columns values name ts us (All-tail (λ other. name ≢ other) (column_name column) (map column_name columns) h) k e
missing-determined first (column ∷ columns) (Some value ∷ values) name ts us h k e =
    All-head (λ other. name ≢ other) (column_name column) (map column_name columns) h (let same : name ≡ column_name column = cc e in same)

key-determined : (first : Number) (columns : List Column) (values others : TableKey) (ts us : List Token) → AreDistinct (map column_name columns) → IsDeterminedKey columns values → IsDeterminedKey columns others
    → key_tokens columns values ++ key (number_name first) ∷ ts ≡ key_tokens columns others ++ key (number_name first) ∷ us → (values ≡ others) × (ts ≡ us)
key-determined first [] [] [] ts us d h k e = (refl, ap (drop 1) e)
key-determined first [] [] (other ∷ others) ts us d h k e = absurd (omega (arith, k.0))
key-determined first [] (value ∷ values) others ts us d h k e = absurd (omega (arith, h.0))
key-determined first (column ∷ columns) [] others ts us d h k e = absurd (omega (arith, h.0))
key-determined first (column ∷ columns) (value ∷ values) [] ts us d h k e = absurd (omega (arith, k.0))
key-determined first (column ∷ columns) (None ∷ values) (None ∷ others) ts us d h k e =
    let rest = key-determined first columns values others ts us d.1 (omega (arith, h.0), h.1.1) (omega (arith, k.0), k.1.1) e in
    (λ i. None ∷ rest.0 i, rest.1)
key-determined first (column ∷ columns) (None ∷ values) (Some second ∷ others) ts us d h k e = absurd (missing-determined (number_name first) columns values (column_name column) ts _ d.0 (column_name-not_number first column) e)
key-determined first (column ∷ columns) (Some value ∷ values) (None ∷ others) ts us d h k e = absurd (missing-determined (number_name first) columns others (column_name column) us _ d.0 (column_name-not_number first column) (sym e))
key-determined first (column ∷ columns) (Some value ∷ values) (Some second ∷ others) ts us d h k e =
    let there = append_assoc (value_tokens value) (key_tokens columns values) (key (number_name first) ∷ ts) in
    let back = append_assoc (value_tokens second) (key_tokens columns others) (key (number_name first) ∷ us) in
    let same = value-determined value second (key_tokens columns values ++ key (number_name first) ∷ ts) (key_tokens columns others ++ key (number_name first) ∷ us) h.1.0 k.1.0 (sym there ∙ ap (drop 1) e ∙ back) in
    let rest = key-determined first columns values others ts us d.1 (omega (arith, h.0), h.1.1) (omega (arith, k.0), k.1.1) same.1 in
    (λ i. Some (same.0 i) ∷ rest.0 i, rest.1)

-- numbers that are printed alike are the same
only-determined : (numbers : List Number) (sums others : Sums) (ts us : List Token) → fit sums ≡ true → fit others ≡ true → sums_tokens numbers sums ++ ts ≡ sums_tokens numbers others ++ us →
    only numbers sums ≡ only numbers others
only-determined [] sums others ts us h k e = refl
only-determined (number ∷ numbers) sums others ts us h k e =
    let value : number_by number sums ≡ number_by number others = decimal_injective _ _ (number_by-small number sums h) (number_by-small number others k) (cc e) in
    let rest = only-determined numbers sums others ts us h k (ap (drop 2) e) in
    λ i. with_number number (value i) (rest i)

row-determined : (schema : Schema) (row other : Row) → 0 < length schema.numbers → AreDistinct (map column_name schema.columns) → IsDetermined schema row → IsDetermined schema other
    → row_tokens schema row ≡ row_tokens schema other → row ≡ other
row-determined schema row other some d h k e = by schema.numbers refl
  where
    tail : List Number → Sums → List Token
    tail numbers sums = sums_tokens numbers sums ++ end_object ∷ []

    by : (numbers : List Number) → schema.numbers ≡ numbers → row ≡ other
    by [] is = absurd (omega (arith, some, ap length is))
    by (first ∷ later) is =
        let mine = ap (λ l. key_tokens schema.columns row.key ++ tail l row.sums) is in
        let its = ap (λ l. key_tokens schema.columns other.key ++ tail l other.sums) is in
        let same = key-determined first schema.columns row.key other.key (drop 1 (tail (first ∷ later) row.sums)) (drop 1 (tail (first ∷ later) other.sums)) d h.key k.key (sym mine ∙ ap (drop 1) e ∙ its) in
        let alike = only-determined (first ∷ later) row.sums other.sums (end_object ∷ []) (end_object ∷ []) h.sums k.sums (ap (λ l. key (number_name first) ∷ l) same.1) in
        let sums = h.own ∙ ap (λ l. only l row.sums) is ∙ alike ∙ sym (ap (λ l. only l other.sums) is) ∙ sym k.own in
        λ i. record { key = same.0 i; sums = sums i }

-- a line of a row, and what follows it
row-first : (schema : Schema) (row : Row) (rest : Bytes) → json_line schema row ++ rest ≡ print (row_tokens schema row) ++ 10 ∷ rest
row-first schema row rest = ap (λ l. l ++ rest) (json_line-print schema row) ∙ append_assoc (print (row_tokens schema row)) (10 ∷ []) rest

rows-determined : (schema : Schema) (rows others : List Row) → 0 < length schema.numbers → AreDistinct (map column_name schema.columns) → All (IsDetermined schema) rows → All (IsDetermined schema) others → length rows ≡ length others
    → flat_map (json_line schema) rows ≡ flat_map (json_line schema) others → rows ≡ others
rows-determined schema [] [] some d h k l e = refl
rows-determined schema [] (other ∷ others) some d h k l e = absurd (omega arith)
rows-determined schema (row ∷ rows) [] some d h k l e = absurd (omega arith)
rows-determined schema (row ∷ rows) (other ∷ others) some d h k l e =
    let is = All-head (IsDetermined schema) row rows h in
    let its = All-head (IsDetermined schema) other others k in
    let more = flat_map (json_line schema) rows in
    let rest = flat_map (json_line schema) others in
    let lines = line-determined (print (row_tokens schema row)) (print (row_tokens schema other)) more rest (print_row-IsLine schema row is) (print_row-IsLine schema other its)
    (sym (row-first schema row more) ∙ e ∙ row-first schema other rest) in
    let same = row-determined schema row other some d is its (sym (tokens-row schema row is) ∙ ap tokens lines.0 ∙ tokens-row schema other its) in
    let all = rows-determined schema rows others some d (All-tail (IsDetermined schema) row rows h) (All-tail (IsDetermined schema) other others k) (omega arith) lines.1 in
    λ i. same i ∷ all i

-- rows of tables of the same schema
rows-with : (one second : Schema) (rows others : List Row) → one ≡ second → 0 < length one.numbers → AreDistinct (map column_name one.columns) → All (IsDetermined one) rows
    → All (IsDetermined second) others → length rows ≡ length others → flat_map (json_line one) rows ≡ flat_map (json_line second) others → rows ≡ others
rows-with one second rows others same some d h k l e =
    rows-determined one rows others some d h (subst (λ s. All (IsDetermined s) others) (sym same) k) l (e ∙ (λ i. flat_map (json_line (sym same i)) others))

numbers-determined : (rows more : ℕ) (counts other : TableCounts) → rows < 2 ^ 64 → more < 2 ^ 64 → AreSmall counts → AreSmall other
    → numbers_tokens rows counts ++ end_object ∷ [] ≡ numbers_tokens more other ++ end_object ∷ [] → (rows ≡ more) × (counts ≡ other)
numbers-determined rows more counts other few little small low e =
    let count : rows ≡ more = decimal_injective rows more few little (cc e) in
    let runs : counts.runs ≡ other.runs = decimal_injective _ _ small.runs low.runs (cc e) in
    let files : counts.files ≡ other.files = decimal_injective _ _ small.files low.files (cc e) in
    let unread : counts.unread ≡ other.unread = decimal_injective _ _ small.unread low.unread (cc e) in
    let accepted : counts.entries.accepted ≡ other.entries.accepted = decimal_injective _ _ small.accepted low.accepted (cc e) in
    let refused : counts.entries.refused ≡ other.entries.refused = decimal_injective _ _ small.refused low.refused (cc e) in
    let skipped : counts.entries.skipped ≡ other.entries.skipped = decimal_injective _ _ small.skipped low.skipped (cc e) in
    let queries : counts.entries.queries ≡ other.entries.queries = decimal_injective _ _ small.queries low.queries (cc e) in
    let seals : counts.entries.seals ≡ other.entries.seals = decimal_injective _ _ small.seals low.seals (cc e) in (
      count,
      λ i. record {
        runs = runs i;
        files = files i;
        unread = unread i;
        entries = record { accepted = accepted i; refused = refused i; skipped = skipped i; queries = queries i; seals = seals i };
      },
    )

of-determined : (of second : Of) (unit more : Unit) (ts us : List Token) → of_tokens of ++ (unit_tokens unit ++ key (codes "columns") ∷ ts) ≡ of_tokens second ++ (unit_tokens more ++ key (codes "columns") ∷ us)
    → (of ≡ second) × (unit_tokens unit ++ key (codes "columns") ∷ ts ≡ unit_tokens more ++ key (codes "columns") ∷ us)
of-determined Spans Spans unit more ts us e = (refl, e)
of-determined Async Async unit more ts us e = (refl, ap (drop 2) e)
of-determined Spans Async Microseconds more ts us e = let same : codes "columns" ≡ codes "of" = cc e in absurd (omega (arith, ap (λ l. get_or l 0 0) same))
of-determined Spans Async Nanoseconds more ts us e = let same : codes "unit" ≡ codes "of" = cc e in absurd (omega (arith, ap (λ l. get_or l 0 0) same))
of-determined Async Spans unit Microseconds ts us e = let same : codes "of" ≡ codes "columns" = cc e in absurd (omega (arith, ap (λ l. get_or l 0 0) same))
of-determined Async Spans unit Nanoseconds ts us e = let same : codes "of" ≡ codes "unit" = cc e in absurd (omega (arith, ap (λ l. get_or l 0 0) same))

unit-determined : (unit second : Unit) (ts us : List Token) → unit_tokens unit ++ key (codes "columns") ∷ ts ≡ unit_tokens second ++ key (codes "columns") ∷ us → (unit ≡ second) × (ts ≡ us)
unit-determined Microseconds Microseconds ts us e = (refl, ap (drop 1) e)
unit-determined Microseconds Nanoseconds ts us e = let same : codes "columns" ≡ codes "unit" = cc e in absurd (omega (arith, ap (λ l. get_or l 0 0) same))
unit-determined Nanoseconds Microseconds ts us e = let same : codes "unit" ≡ codes "columns" = cc e in absurd (omega (arith, ap (λ l. get_or l 0 0) same))
unit-determined Nanoseconds Nanoseconds ts us e = (refl, ap (drop 3) e)

-- names of numbers that are printed alike are of the same ones
number_names-determined : (numbers others : List Number) (ts us : List Token) → map string (map number_name numbers) ++ end_array ∷ ts ≡ map string (map number_name others) ++ end_array ∷ us → (numbers ≡ others) × (ts ≡ us)
number_names-determined [] [] ts us e = (refl, ap (drop 1) e)
number_names-determined [] (other ∷ others) ts us e = absurd (cc e)
number_names-determined (number ∷ numbers) [] ts us e = absurd (cc e)
number_names-determined (number ∷ numbers) (other ∷ others) ts us e =
    let called : number_name number ≡ number_name other = cc e in
    let same = number_name-same number other called in
    let rest = number_names-determined numbers others ts us (ap (drop 1) e) in
    (λ i. same i ∷ rest.0 i, rest.1)

-- so are lists of numbers, before the number of rows, of the same kind of table
list-determined : (one second : Schema) (ts us : List Token) → one.of ≡ second.of → list_tokens one (key (codes "rows") ∷ ts) ≡ list_tokens second (key (codes "rows") ∷ us) → (one.numbers ≡ second.numbers) × (ts ≡ us)
list-determined one second ts us kind e = by (are_same one.numbers (usual_numbers Programs one.of)) (are_same second.numbers (usual_numbers Programs second.of)) refl refl e
  where
    listed : List Number → List Token → List Token
    listed numbers rest = key (codes "numbers") ∷ begin_array ∷ (map string (map number_name numbers) ++ end_array ∷ rest)

    by : (a b : Bool) → are_same one.numbers (usual_numbers Programs one.of) ≡ a → are_same second.numbers (usual_numbers Programs second.of) ≡ b →
        cond a (key (codes "rows") ∷ ts) (listed one.numbers (key (codes "rows") ∷ ts)) ≡ cond b (key (codes "rows") ∷ us) (listed second.numbers (key (codes "rows") ∷ us)) → (one.numbers ≡ second.numbers) × (ts ≡ us)
    by true true mine its e = (are_same-same one.numbers (usual_numbers Programs one.of) mine ∙ ap (usual_numbers Programs) kind ∙ sym (are_same-same second.numbers (usual_numbers Programs second.of) its), ap (drop 1) e)
    by true false mine its e = let same : codes "rows" ≡ codes "numbers" = cc e in absurd (omega (arith, ap length same))
    by false true mine its e = let same : codes "numbers" ≡ codes "rows" = cc e in absurd (omega (arith, ap length same))
    by false false mine its e =
        let both = number_names-determined one.numbers second.numbers (key (codes "rows") ∷ ts) (key (codes "rows") ∷ us) (ap (drop 2) e) in
        (both.0, ap (drop 1) both.1)

-- the first line, and what follows it
head-first : (unit : Unit) (table : SpanTable) → text_of unit table ≡ print (head_tokens table.schema unit (length table.rows) table.counts) ++ 10 ∷ flat_map (json_line table.schema) table.rows
head-first unit table =
    let rest = flat_map (json_line table.schema) table.rows in
    ap (λ l. l ++ rest) (json_head-print table.schema unit (length table.rows) table.counts)
    ∙ append_assoc (print (head_tokens table.schema unit (length table.rows) table.counts)) (10 ∷ []) rest

-- a table that its text determines
record IsDeterminedTable (table : SpanTable) : Type 0 where
  pub counts : counts_fit table.counts ≡ true
  pub few : length table.rows < 2 ^ 64
  pub rows : All (IsDetermined table.schema) table.rows

tables-determined : (unit second : Unit) (one other : SpanTable) → 0 < length one.schema.numbers → AreDistinct (map column_name one.schema.columns) → IsDeterminedTable one → IsDeterminedTable other
    → text_of unit one ≡ text_of second other → (unit ≡ second) × (one ≡ other)
tables-determined unit second one other some distinct is its e =
    let many = length one.rows in
    let more = length other.rows in
    let mine = one.schema in
    let theirs = other.schema in
    let lines = line-determined (print (head_tokens mine unit many one.counts)) (print (head_tokens theirs second more other.counts)) (flat_map (json_line mine) one.rows) (flat_map (json_line theirs) other.rows)
    (print_head-IsLine mine unit many one.counts is.few is.counts) (print_head-IsLine theirs second more other.counts its.few its.counts)
    (sym (head-first unit one) ∙ e ∙ head-first second other) in
    let heads = sym (tokens-head mine unit many one.counts is.few is.counts) ∙ ap tokens lines.0 ∙ tokens-head theirs second more other.counts its.few its.counts in
    let its_numbers = numbers_tokens many one.counts ++ end_object ∷ [] in
    let other_numbers = numbers_tokens more other.counts ++ end_object ∷ [] in
    let its_columns = drop 1 (columns_tokens mine.columns (list_tokens mine its_numbers)) in
    let other_columns = drop 1 (columns_tokens theirs.columns (list_tokens theirs other_numbers)) in
    let kinds = of-determined mine.of theirs.of unit second its_columns other_columns (ap (drop 3) heads) in
    let units = unit-determined unit second its_columns other_columns kinds.1 in
    let columns = names-determined mine.columns theirs.columns (list_tokens mine its_numbers) (list_tokens theirs other_numbers) (ap (drop 1) units.1) in
    let lists = list-determined mine theirs (drop 1 its_numbers) (drop 1 other_numbers) kinds.0 columns.1 in
    let numbers = numbers-determined many more one.counts other.counts is.few its.few (counts_small one.counts is.counts) (counts_small other.counts its.counts) (ap (λ l. key (codes "rows") ∷ l) lists.1) in
    let schemas : mine ≡ theirs = λ i. record { of = kinds.0 i; columns = columns.0 i; numbers = lists.0 i } in
    let rows = rows-with mine theirs one.rows other.rows schemas some distinct is.rows its.rows numbers.0 lines.1 in
    (units.0, λ i. record { schema = schemas i; counts = numbers.1 i; rows = rows i })

IsTable-determined : (table : SpanTable) → IsTable table → IsDeterminedTable table
IsTable-determined table is = record { counts = is.counts; few = is.few; rows = All-weaker (IsRowOf table.schema) (IsDetermined table.schema) (IsRowOf-determined table.schema) table.rows is.rows }

-- each key of the table has a value for each column
abbrev pub HasWholeKeys : SpanTable → Type 0
HasWholeKeys table = All (λ row. length row.key ≡ length table.schema.columns) table.rows

-- each row has no number that the table doesn't have
abbrev pub HasOwnNumbers : SpanTable → Type 0
HasOwnNumbers table = All (λ row. HasOwn table.schema row.sums) table.rows

AllFit-determined : (table : SpanTable) → AllFit table → HasWholeKeys table → HasOwnNumbers table → IsDeterminedTable table
AllFit-determined table fits whole own =
    let numbers = numbers_fit-each table fits.numbers in
    record { counts = numbers.0; few = fits.few; rows = λ k d low. record { key = (whole k d low, fits.keys k d low); own = own k d low; sums = numbers.1 k d low } }

-- a table that was read of the text that is printed of another is this one
pub prints-determined : (unit second : Unit) (text : Bytes) (part table : SpanTable) → IsPart unit text part → IsPrint second text table → HasWholeKeys table → HasOwnNumbers table → (unit ≡ second) × (part ≡ table)
prints-determined unit second text part table is print whole own =
    tables-determined unit second part table is.is.schema.numbers.some is.is.schema.columns.distinct (IsTable-determined part is.is) (AllFit-determined table print.fits whole own) (sym is.printed ∙ print.printed)

-- a text is that of one table, in one unit
pub parts-determined : PartsAreDetermined
parts-determined unit second text one other is its =
    tables-determined unit second one other is.is.schema.numbers.some is.is.schema.columns.distinct (IsTable-determined one is.is) (IsTable-determined other its.is) (sym is.printed ∙ its.printed)

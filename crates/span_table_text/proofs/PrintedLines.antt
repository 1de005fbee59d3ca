-- The tokens of the lines of a table are read back, and no line feed stands in such a line.
use Rattle.std.specs.{Char.digit_char, Fmt.signed_decimal, Int.w64, List.{AllByRecursion, list_all}, Prelude.⊤, Str.Parse.AllDigits}
use Rattle.std.proofs.{Common.{◌≡◌, ◌≢◌, ℕ, ℤ, pos, negsuc, suc, ◌+◌, ◌/◌, ◌%◌, ◌^◌, ◌<◌, ◌≤◌, Bool, true, false, true≢false, cond, ◌&&◌, ◌||◌, ◌==◌, nat_lt, List, [], ◌∷◌, ◌++◌, All, codes, length, map, refl, sym, ap, ◌∙◌, Some, None, arith, decimal, FitsSigned}, lemmas.{Bool.{and_parts, ltb-false, ltb-true}, Fmt.decimal_is_IsNumeral, List.{Elements.All-from_recursion, Sums.AllPass-from_list_all}, Str.Parse.digit_from_value}}
use Rattle.json.specs.{Lex.tokens, Print.{ArePrintable, IsNumber, IsPrintable, begins, ends, escape, escape_byte, escape_letter, print, print_from, quoted, separator, token_text}, Token.{Token, begin_object, end_object, begin_array, end_array, key, string, number, boolean, null, bad}}
use Rattle.json.proofs.Printed.{Decimals.{IsNumber-decimal, IsNumber-signed_decimal}, Tokens.tokens-print}
use Rattle.span_table.proofs.Numbers.{number_by-small}
use Rattle.span_table_text.specs.{ArgValue, Nil, Flag, Whole, Words, Other, Bytes, Unit, Microseconds, Nanoseconds, Column, Pid, Tid, Argument, ParentArgument, TableCounts, Number, Of, Programs, Spans, Async, Sums, Row, Value, are_same, counts_fit, fit, number_by, number_name, usual_numbers, Schema, TableKey, SpanTable, Json.{json_head, json_line, numbers_fit}, Printed.{HasOwn, IsKeyOf, IsOfArgument, IsRowOf, KeyFits, MayHave}, Tokens.{columns_tokens, entry_counts_tokens, head_tokens, key_tokens, list_tokens, name_tokens, numbers_tokens, of_tokens, row_tokens, sums_tokens, unit_tokens, value_tokens}}

-- no line feed is among the bytes
abbrev pub IsLine : Bytes → Type 0
IsLine = AllByRecursion (λ byte. byte ≢ 10)

-- the token can be printed, in a line
abbrev IsInLine : Token → Type 0
IsInLine (number text) = IsNumber text × IsLine text
IsInLine bad = ⊥
IsInLine token = ⊤

abbrev AreInLine : List Token → Type 0
AreInLine = AllByRecursion IsInLine

IsLine-append : (a b : Bytes) → IsLine a → IsLine b → IsLine (a ++ b)
IsLine-append [] b h k = k
IsLine-append (byte ∷ a) b h k = (h.0, IsLine-append a b h.1 k)

AreInLine-append : (ts us : List Token) → AreInLine ts → AreInLine us → AreInLine (ts ++ us)
AreInLine-append [] us h k = k
AreInLine-append (t ∷ ts) us h k = (h.0, AreInLine-append ts us h.1 k)

-- an escape has no line feed
letter_line : (q b f n r t : Bool) (byte : ℕ) → (q ≡ true → byte ≢ 10) → cond q byte (cond b 98 (cond f 102 (cond n 110 (cond r 114 (cond t 116 0))))) ≢ 10
letter_line true b f n r t byte h = h refl
letter_line false true f n r t byte h = λ e. omega arith
letter_line false false true n r t byte h = λ e. omega arith
letter_line false false false true r t byte h = λ e. omega arith
letter_line false false false false true t byte h = λ e. omega arith
letter_line false false false false false true byte h = λ e. omega arith
letter_line false false false false false false byte h = λ e. omega arith

digit_line : (digit : ℕ) → digit_char digit ≢ 10
digit_line digit = by (nat_lt digit 10)
  where
    by : (b : Bool) → cond b (48 + digit) (87 + digit) ≢ 10
    by true = λ e. omega arith
    by false = λ e. omega arith

escape_byte-line : (byte : ℕ) → IsLine (escape_byte byte)
unfolding escape_byte
escape_byte-line byte = by (nat_lt 0 (escape_letter byte)) (nat_lt byte 32) (ltb-false byte 32)
  where
    quotes : ((byte == 34) || (byte == 92)) ≡ true → byte ≢ 10
    quotes h e = true≢false (sym h ∙ ap (λ (x : ℕ). (x == 34) || (x == 92)) e)

    by : (a b : Bool) → (b ≡ false → 32 ≤ byte)
        → IsLine (cond a (92 ∷ escape_letter byte ∷ []) (cond b (92 ∷ 117 ∷ 48 ∷ 48 ∷ digit_char (byte / 16) ∷ digit_char (byte % 16) ∷ []) (byte ∷ [])))
    by true b h = ((λ e. omega arith), (letter_line ((byte == 34) || (byte == 92)) (byte == 8) (byte == 12) (byte == 10) (byte == 13) (byte == 9) byte quotes, tt))
    by false true h = ((λ e. omega arith), ((λ e. omega arith), ((λ e. omega arith), ((λ e. omega arith), (digit_line (byte / 16), (digit_line (byte % 16), tt))))))
    by false false h = (let low = h refl in λ e. omega arith, tt)

escape-line : (text : Bytes) → IsLine (escape text)
escape-line [] = tt
escape-line (byte ∷ text) = IsLine-append (escape_byte byte) (escape text) (escape_byte-line byte) (escape-line text)

quoted-line : (text : Bytes) → IsLine (quoted text)
quoted-line text = ((λ e. omega arith), IsLine-append (escape text) (34 ∷ []) (escape-line text) ((λ e. omega arith), tt))

token-line : (t : Token) → IsInLine t → IsLine (token_text t)
token-line begin_object h = ((λ e. omega arith), tt)
token-line end_object h = ((λ e. omega arith), tt)
token-line begin_array h = ((λ e. omega arith), tt)
token-line end_array h = ((λ e. omega arith), tt)
token-line (key text) h = IsLine-append (quoted text) (58 ∷ []) (quoted-line text) ((λ e. omega arith), tt)
token-line (string text) h = quoted-line text
token-line (number text) h = h.1
token-line (boolean true) h = ((λ e. omega arith), ((λ e. omega arith), ((λ e. omega arith), ((λ e. omega arith), tt))))
token-line (boolean false) h = ((λ e. omega arith), ((λ e. omega arith), ((λ e. omega arith), ((λ e. omega arith), ((λ e. omega arith), tt)))))
token-line null h = ((λ e. omega arith), ((λ e. omega arith), ((λ e. omega arith), ((λ e. omega arith), tt))))
token-line bad h = absurd h

separator-line : (after : Bool) (t : Token) → IsLine (separator after t)
separator-line after t = by (after && begins t)
  where
    by : (b : Bool) → IsLine (cond b (44 ∷ []) [])
    by true = ((λ e. omega arith), tt)
    by false = tt

print-line : (after : Bool) (ts : List Token) → AreInLine ts → IsLine (print_from after ts)
unfolding print_from
print-line after [] h = tt
print-line after (t ∷ ts) h = IsLine-append (separator after t) _ (separator-line after t) (IsLine-append (token_text t) _ (token-line t h.0) (print-line (ends t) ts h.1))

printable : (t : Token) → IsInLine t → IsPrintable t
printable (number text) h = h.0
printable bad h = h
printable token h = tt

all_printable : (ts : List Token) → AreInLine ts → ArePrintable ts
unfolding ArePrintable
all_printable [] h = tt
all_printable (t ∷ ts) h = (printable t h.0, all_printable ts h.1)

digits-line : (digits : List ℕ) → AllDigits 10 digits → IsLine digits
digits-line [] h = tt
digits-line (digit ∷ digits) h = (let high = digit_from_value digit h.0 in λ e. omega arith, digits-line digits h.1)

decimal-in_line : (n : ℕ) → n < 2 ^ 64 → IsInLine (number (decimal n))
decimal-in_line n h = (IsNumber-decimal n h, digits-line (decimal n) (decimal_is_IsNumeral n h).0.1)

signed_decimal-in_line : (z : ℤ) → FitsSigned w64 z → IsInLine (number (signed_decimal z))
signed_decimal-in_line (pos n) h = decimal-in_line n (omega (arith, h.sfits))
signed_decimal-in_line (negsuc n) h =
    let small : suc n < 2 ^ 64 = omega (arith, h.sfits) in
    (IsNumber-signed_decimal (negsuc n) h.sfits, ((λ e. omega arith), digits-line (decimal (suc n)) (decimal_is_IsNumeral (suc n) small).0.1))

-- the numbers of a table, where all of them fit
pub numbers_fit-each : (table : SpanTable) → numbers_fit table ≡ true → (counts_fit table.counts ≡ true) × All (λ row. fit row.sums ≡ true) table.rows
numbers_fit-each table h =
    let fits = λ (row : Row). fit row.sums in
    let both = and_parts (counts_fit table.counts) (list_all fits table.rows) h in
    (both.0, AllPass-from_list_all fits table.rows both.1)

sums-in_line : (numbers : List Number) (sums : Sums) → fit sums ≡ true → AreInLine (sums_tokens numbers sums)
sums-in_line [] sums h = tt
sums-in_line (first ∷ later) sums h = (tt, (decimal-in_line (number_by first sums) (number_by-small first sums h), sums-in_line later sums h))

-- the numbers of counts
pub record AreSmall (counts : TableCounts) : Type 0 where
  pub runs : counts.runs < 2 ^ 64
  pub files : counts.files < 2 ^ 64
  pub unread : counts.unread < 2 ^ 64
  pub accepted : counts.entries.accepted < 2 ^ 64
  pub refused : counts.entries.refused < 2 ^ 64
  pub skipped : counts.entries.skipped < 2 ^ 64
  pub queries : counts.entries.queries < 2 ^ 64
  pub seals : counts.entries.seals < 2 ^ 64

pub counts_small : (counts : TableCounts) → counts_fit counts ≡ true → AreSmall counts
counts_small counts h =
    let runs = and_parts (nat_lt counts.runs (2 ^ 64)) _ h in
    let files = and_parts (nat_lt counts.files (2 ^ 64)) _ runs.1 in
    let unread = and_parts (nat_lt counts.unread (2 ^ 64)) _ files.1 in
    let accepted = and_parts (nat_lt counts.entries.accepted (2 ^ 64)) _ unread.1 in
    let refused = and_parts (nat_lt counts.entries.refused (2 ^ 64)) _ accepted.1 in
    let skipped = and_parts (nat_lt counts.entries.skipped (2 ^ 64)) _ refused.1 in
    let queries = and_parts (nat_lt counts.entries.queries (2 ^ 64)) _ skipped.1 in
    record {
      runs = ltb-true _ _ runs.0;
      files = ltb-true _ _ files.0;
      unread = ltb-true _ _ unread.0;
      accepted = ltb-true _ _ accepted.0;
      refused = ltb-true _ _ refused.0;
      skipped = ltb-true _ _ skipped.0;
      queries = ltb-true _ _ queries.0;
      seals = ltb-true _ _ queries.1;
    }

entry_counts-in_line : (counts : TableCounts) → AreSmall counts → AreInLine (entry_counts_tokens counts.entries)
entry_counts-in_line counts small =
    let seals = decimal-in_line counts.entries.seals small.seals in
    let queries = decimal-in_line counts.entries.queries small.queries in
    let skipped = decimal-in_line counts.entries.skipped small.skipped in
    let refused = decimal-in_line counts.entries.refused small.refused in
    let accepted = decimal-in_line counts.entries.accepted small.accepted in
    (tt, (accepted, (tt, (refused, (tt, (skipped, (tt, (queries, (tt, (seals, tt))))))))))

numbers-in_line : (rows : ℕ) (counts : TableCounts) → rows < 2 ^ 64 → AreSmall counts → AreInLine (numbers_tokens rows counts)
numbers-in_line rows counts few small =
    let unread = decimal-in_line counts.unread small.unread in
    let files = decimal-in_line counts.files small.files in
    let runs = decimal-in_line counts.runs small.runs in
    (tt, (decimal-in_line rows few, (tt, (runs, (tt, (files, (tt, (unread, entry_counts-in_line counts small))))))))

-- a number that a column has fits
whole_fits : (column : Column) (whole : ℤ) → MayHave column (Some (Whole whole)) → FitsSigned w64 whole
whole_fits Pid whole h = h
whole_fits Tid whole h = h
whole_fits (Argument name) whole h = h
whole_fits (ParentArgument name) whole h = h
whole_fits column whole h = absurd h

-- a value that a column may have, an argument may have
pub IsOfArgument-any : (column : Column) (value : Value) → MayHave column value → IsOfArgument value
IsOfArgument-any column (Some (Whole whole)) may = whole_fits column whole may
IsOfArgument-any column value may = tt

-- a key that its line determines: a value for each column, whose numbers have 64 bits
abbrev pub IsDeterminedKey : List Column → TableKey → Type 0
IsDeterminedKey columns values = (length values ≡ length columns) × KeyFits columns values

IsKeyOf-determined : (columns : List Column) (values : TableKey) → IsKeyOf columns values → IsDeterminedKey columns values
IsKeyOf-determined [] [] h = (refl, tt)
IsKeyOf-determined [] (value ∷ values) h = absurd h
IsKeyOf-determined (column ∷ columns) [] h = absurd h
IsKeyOf-determined (column ∷ columns) (value ∷ values) h = let rest = IsKeyOf-determined columns values h.1 in (ap suc rest.0, (IsOfArgument-any column value h.0, rest.1))

-- a row that its line determines
pub record IsDetermined (schema : Schema) (row : Row) : Type 0 where
  pub key : IsDeterminedKey schema.columns row.key
  pub own : HasOwn schema row.sums
  pub sums : fit row.sums ≡ true

-- so is each that a table may have
pub IsRowOf-determined : (schema : Schema) (row : Row) → IsRowOf schema row → IsDetermined schema row
IsRowOf-determined schema row is = record { key = IsKeyOf-determined schema.columns row.key is.key; own = is.own; sums = is.fits }

value-in_line : (value : ArgValue) → IsOfArgument (Some value) → AreInLine (value_tokens value)
value-in_line Nil h = (tt, tt)
value-in_line (Flag flag) h = (tt, tt)
value-in_line (Whole whole) h = (signed_decimal-in_line whole h, tt)
value-in_line (Words text) h = (tt, tt)
value-in_line Other h = (tt, (tt, tt))

key-in_line : (columns : List Column) (values : TableKey) → KeyFits columns values → AreInLine (key_tokens columns values)
key-in_line [] values h = tt
key-in_line (column ∷ columns) [] h = tt
key-in_line (column ∷ columns) (None ∷ values) h = key-in_line columns values h.1
key-in_line (column ∷ columns) (Some value ∷ values) h = (tt, AreInLine-append (value_tokens value) _ (value-in_line value h.0) (key-in_line columns values h.1))

row-in_line : (schema : Schema) (row : Row) → IsDetermined schema row → AreInLine (row_tokens schema row)
row-in_line schema row is =
    let numbers = sums_tokens schema.numbers row.sums in
    let sums = AreInLine-append numbers (end_object ∷ []) (sums-in_line schema.numbers row.sums is.sums) (tt, tt) in
    (tt, AreInLine-append (key_tokens schema.columns row.key) (numbers ++ end_object ∷ []) (key-in_line schema.columns row.key is.key.1) sums)

names-in_line : (columns : List Column) → AreInLine (name_tokens columns)
names-in_line [] = tt
names-in_line (column ∷ columns) = (tt, names-in_line columns)

of-in_line : (of : Of) → AreInLine (of_tokens of)
of-in_line Spans = tt
of-in_line Async = (tt, (tt, tt))

unit-in_line : (unit : Unit) → AreInLine (unit_tokens unit)
unit-in_line Microseconds = tt
unit-in_line Nanoseconds = (tt, (tt, tt))

number_names-in_line : (numbers : List Number) → AreInLine (map string (map number_name numbers))
number_names-in_line [] = tt
number_names-in_line (first ∷ later) = (tt, number_names-in_line later)

list-in_line : (schema : Schema) (rest : List Token) → AreInLine rest → AreInLine (list_tokens schema rest)
list-in_line schema rest h = by (are_same schema.numbers (usual_numbers Programs schema.of))
  where
    by : (b : Bool) → AreInLine (cond b rest (key (codes "numbers") ∷ begin_array ∷ (map string (map number_name schema.numbers) ++ end_array ∷ rest)))
    by true = h
    by false = (tt, (tt, AreInLine-append (map string (map number_name schema.numbers)) (end_array ∷ rest) (number_names-in_line schema.numbers) (tt, h)))

head-in_line : (schema : Schema) (unit : Unit) (rows : ℕ) (counts : TableCounts) → rows < 2 ^ 64 → AreSmall counts → AreInLine (head_tokens schema unit rows counts)
head-in_line schema unit rows counts few small =
    let numbers = AreInLine-append (numbers_tokens rows counts) (end_object ∷ []) (numbers-in_line rows counts few small) (tt, tt) in
    let listed = list-in_line schema (numbers_tokens rows counts ++ end_object ∷ []) numbers in
    let rest = columns_tokens schema.columns (list_tokens schema (numbers_tokens rows counts ++ end_object ∷ [])) in
    let names : AreInLine rest = (tt, (tt, AreInLine-append (name_tokens schema.columns) _ (names-in_line schema.columns) (tt, listed))) in
    let more = AreInLine-append (unit_tokens unit) rest (unit-in_line unit) names in
    (tt, (tt, (decimal-in_line 1 (omega arith), AreInLine-append (of_tokens schema.of) (unit_tokens unit ++ rest) (of-in_line schema.of) more)))

-- a line is its tokens, printed
pub json_line-print : (schema : Schema) (row : Row) → json_line schema row ≡ print (row_tokens schema row) ++ 10 ∷ []
unfolding json_line
json_line-print schema row = refl

pub json_head-print : (schema : Schema) (unit : Unit) (rows : ℕ) (counts : TableCounts) → json_head schema unit rows counts ≡ print (head_tokens schema unit rows counts) ++ 10 ∷ []
unfolding json_head
json_head-print schema unit rows counts = refl

-- the tokens of a row are read back
pub tokens-row : (schema : Schema) (row : Row) → IsDetermined schema row → tokens (print (row_tokens schema row)) ≡ row_tokens schema row
tokens-row schema row is = tokens-print (row_tokens schema row) (all_printable (row_tokens schema row) (row-in_line schema row is))

-- those of the first line are read back
pub tokens-head : (schema : Schema) (unit : Unit) (rows : ℕ) (counts : TableCounts) → rows < 2 ^ 64 → counts_fit counts ≡ true →
    tokens (print (head_tokens schema unit rows counts)) ≡ head_tokens schema unit rows counts
tokens-head schema unit rows counts few fits =
    tokens-print (head_tokens schema unit rows counts) (all_printable (head_tokens schema unit rows counts) (head-in_line schema unit rows counts few (counts_small counts fits)))

-- the line of a row is one line
pub print_row-IsLine : (schema : Schema) (row : Row) → IsDetermined schema row → IsLine (print (row_tokens schema row))
print_row-IsLine schema row is = print-line false (row_tokens schema row) (row-in_line schema row is)

-- the first line is one line
pub print_head-IsLine : (schema : Schema) (unit : Unit) (rows : ℕ) (counts : TableCounts) → rows < 2 ^ 64 → counts_fit counts ≡ true → IsLine (print (head_tokens schema unit rows counts))
print_head-IsLine schema unit rows counts few fits = print-line false (head_tokens schema unit rows counts) (head-in_line schema unit rows counts few (counts_small counts fits))

-- no line feed stands in the line of a row
pub print_row-line : (schema : Schema) (row : Row) → IsDetermined schema row → All (λ byte. byte ≢ 10) (print (row_tokens schema row))
print_row-line schema row is = All-from_recursion (λ byte. byte ≢ 10) (print (row_tokens schema row)) (print_row-IsLine schema row is)

-- no line feed stands in the first line
pub print_head-line : (schema : Schema) (unit : Unit) (rows : ℕ) (counts : TableCounts) → rows < 2 ^ 64 → counts_fit counts ≡ true → All (λ byte. byte ≢ 10) (print (head_tokens schema unit rows counts))
print_head-line schema unit rows counts few fits = All-from_recursion (λ byte. byte ≢ 10) (print (head_tokens schema unit rows counts)) (print_head-IsLine schema unit rows counts few fits)

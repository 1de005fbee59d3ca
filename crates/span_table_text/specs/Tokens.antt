-- The tokens of the lines for other programs, which are printed on one line each.
use Rattle.std.specs.{Fmt.signed_decimal, Prelude.{◌≡◌, ℕ, if◌then◌else◌, List, [], ◌∷◌, ◌++◌, flat_map, map, OnOk, Result, Some, None, codes, decimal}}
use Rattle.json.specs.{Print.print, Token.{Token, begin_object, end_object, begin_array, end_array, key, string, number, boolean, null}, Written.Written}
use Rattle.span_table_text.specs.{ArgValue, Nil, Flag, Whole, Words, Other, Bytes, Unit as TimeUnit, Microseconds, Nanoseconds, CountRow, Column, TableCounts, Number, Of, Programs, Spans, Async, Sums, Row, are_same, column_name, number_by, number_name, usual_numbers, Schema, TableKey}

-- the line of these tokens
abbrev pub token_line : List Token → Bytes
token_line tokens = print tokens ++ 10 ∷ []

-- these tokens were written behind those that there were
pub record Follow (old new : Written) (more : List Token) : Type 0 where
  pub before : new.before ≡ old.before
  pub tokens : new.tokens ≡ old.tokens ++ more

-- they were, if that succeeded
abbrev pub Appends : {E : Type 0} → Result (Unit {0}) E → Written → Written → List Token → Type 0
Appends result old new tokens = OnOk result (Follow old new tokens)

abbrev pub value_tokens : ArgValue → List Token
value_tokens Nil = null ∷ []
value_tokens (Flag flag) = boolean flag ∷ []
value_tokens (Whole whole) = number (signed_decimal whole) ∷ []
value_tokens (Words text) = string text ∷ []
value_tokens Other = begin_object ∷ end_object ∷ []

-- each column that has a value with it
abbrev pub key_tokens : List Column → TableKey → List Token
key_tokens [] values = []
key_tokens (column ∷ columns) [] = []
key_tokens (column ∷ columns) (None ∷ values) = key_tokens columns values
key_tokens (column ∷ columns) (Some value ∷ values) = key (column_name column) ∷ (value_tokens value ++ key_tokens columns values)

abbrev pub number_tokens : Bytes → ℕ → List Token
number_tokens name n = key name ∷ number (decimal n) ∷ []

-- these numbers of a row
abbrev pub sums_tokens : List Number → Sums → List Token
sums_tokens numbers sums = flat_map (λ n. number_tokens (number_name n) (number_by n sums)) numbers

abbrev pub row_tokens : Schema → Row → List Token
row_tokens schema row = begin_object ∷ (key_tokens schema.columns row.key ++ (sums_tokens schema.numbers row.sums ++ end_object ∷ []))

-- the names of columns
abbrev pub name_tokens : List Column → List Token
name_tokens columns = map string (map column_name columns)

abbrev pub entry_counts_tokens : CountRow → List Token
entry_counts_tokens entries =
    number_tokens (codes "events") entries.accepted ++ (number_tokens (codes "refused") entries.refused ++ (number_tokens (codes "skipped") entries.skipped
    ++ (number_tokens (codes "queries") entries.queries ++ number_tokens (codes "seals") entries.seals)))

abbrev pub counts_tokens : TableCounts → List Token
counts_tokens counts =
    number_tokens (codes "runs") counts.runs ++ (number_tokens (codes "files") counts.files ++ (number_tokens (codes "unread") counts.unread ++ entry_counts_tokens counts.entries))

-- the numbers of the first line
abbrev pub numbers_tokens : ℕ → TableCounts → List Token
numbers_tokens rows counts = number_tokens (codes "rows") rows ++ counts_tokens counts

-- what a table sums, where that isn't the spans of threads
abbrev pub of_tokens : Of → List Token
of_tokens Spans = []
of_tokens Async = key (codes "of") ∷ string (codes "async") ∷ []

-- the unit of all times, where it isn't microseconds
abbrev pub unit_tokens : TimeUnit → List Token
unit_tokens Microseconds = []
unit_tokens Nanoseconds = key (codes "unit") ∷ string (codes "ns") ∷ []

-- the columns, and then these
abbrev pub columns_tokens : List Column → List Token → List Token
columns_tokens columns rest = key (codes "columns") ∷ begin_array ∷ (name_tokens columns ++ end_array ∷ rest)

-- the numbers of rows, where they aren't the usual ones, and then these
abbrev pub list_tokens : Schema → List Token → List Token
list_tokens schema rest =
    if are_same schema.numbers (usual_numbers Programs schema.of) then rest else key (codes "numbers") ∷ begin_array ∷ (map string (map number_name schema.numbers) ++ end_array ∷ rest)

-- what a first line says of a schema, and then these
abbrev pub start_tokens : Schema → TimeUnit → List Token → List Token
start_tokens schema unit rest = begin_object ∷ (number_tokens (codes "tracebook") 1 ++ (of_tokens schema.of ++ (unit_tokens unit ++ columns_tokens schema.columns (list_tokens schema rest))))

-- the first line of a table
abbrev pub head_tokens : Schema → TimeUnit → ℕ → TableCounts → List Token
head_tokens schema unit rows counts = start_tokens schema unit (numbers_tokens rows counts ++ end_object ∷ [])

-- What the texts for people have in common: the names of columns, values, and how many rows are shown.
use Rattle.std.specs.Prelude.{ℕ, if◌then◌else◌, Bool, [], ◌∷◌, codes, decimal}
use Rattle.json.specs.Print.{escape, print}
use Rattle.span_table_text.specs.{ArgValue, Other, Bytes, line_of, or_dash, Column, TableCounts, Value, column_name, Shown.{Wanted, wants_all}, Tokens.value_tokens}

-- a value that is there: as JSON, `...` for one that isn't kept
abbrev pub kept_text : ArgValue → Bytes
kept_text Other = codes "..."
kept_text value = print (value_tokens value)

-- a value, or `-` where there is none
unfoldable pub value_text : Value → Bytes
value_text value = or_dash kept_text value

-- the name of a column as JSON writes it, without the quotes
unfoldable pub column_title : Column → Bytes
column_title column = escape (column_name column)

-- how many runs there are, and how many files, where the head is to say so
unfoldable pub runs_line : Bool → TableCounts → Bytes
runs_line says_runs counts =
    if says_runs then line_of (codes "runs" ∷ decimal counts.runs ∷ codes "files" ∷ decimal counts.files ∷ codes "unread" ∷ decimal counts.unread ∷ []) else []

-- how many keys are shown of how many, where not all are wanted
unfoldable pub shown_line : Wanted → ℕ → ℕ → Bytes
shown_line wanted shown all = if wants_all wanted then [] else line_of (codes "shown" ∷ decimal shown ∷ codes "of" ∷ decimal all ∷ [])

-- Tables that are printed as JSON Lines, and those whose text can be read back.
use Rattle.std.specs.{Int.w64, Prelude.{◌≡◌, ◌≢◌, ℕ, ◌<◌, ◌≤◌, ◌^◌, ◌+◌, Bool, true, List, [], ◌∷◌, All, is_some, length, map, Some, None, FitsSigned, ⊤}, Str.IsUtf8}
use Rattle.span_table_text.specs.{Whole, Words, Bytes, IsLegal, Unit, Column, Pid, Tid, Process, Thread, Name, File, Cat, Scope, Id, Argument, ParentName, ParentArgument, Of, Spans, Async, Number, Count, Closed, Open, Points, Sums, Row, Run, Value, AreAmong, all_of, column_name, goes_with, has_number, is_column, counts_fit, fit, number_name, only, TableKey, RowsRise, Schema, SpanTable, add_tables, table_of, Json.{numbers_fit, shown_table, text_of}, Shown.{Wanted, wants_all}}

-- a number, which has 64 bits
abbrev pub IsWhole : Value → Type 0
IsWhole (Some (Whole number)) = FitsSigned w64 number
IsWhole value = ⊥

abbrev pub IsWords : Value → Type 0
IsWords (Some (Words text)) = ⊤
IsWords value = ⊥

-- the name of a process or a thread, or of a parent, which may have none, or not be there
abbrev pub IsName : Value → Type 0
IsName None = ⊤
IsName value = IsWords value

-- whatever an argument may be
abbrev pub IsOfArgument : Value → Type 0
IsOfArgument (Some (Whole number)) = FitsSigned w64 number
IsOfArgument value = ⊤

-- a value that what is summed may have in a column
abbrev pub MayHave : Column → Value → Type 0
MayHave Pid value = IsWhole value
MayHave Tid value = IsWhole value
MayHave Process value = IsName value
MayHave Thread value = IsName value
MayHave Name value = IsWords value
MayHave File value = IsWords value
MayHave Cat value = IsWords value
MayHave Scope value = IsWords value
MayHave Id value = IsWords value
MayHave (Argument key) value = IsOfArgument value
MayHave ParentName value = IsName value
MayHave (ParentArgument key) value = IsOfArgument value

-- the numbers of a key have 64 bits, as far as there are columns
abbrev pub KeyFits : List Column → TableKey → Type 0
KeyFits [] key = ⊤
KeyFits (column ∷ columns) [] = ⊤
KeyFits (column ∷ columns) (value ∷ key) = IsOfArgument value × KeyFits columns key

-- all numbers of a table have 64 bits, and so has that of its rows
pub record AllFit (table : SpanTable) : Type 0 where
  pub numbers : numbers_fit table ≡ true
  pub few : length table.rows < 2 ^ 64
  pub keys : All (λ row. KeyFits table.schema.columns row.key) table.rows

-- the text of such a table, in this unit
pub record IsPrint (unit : Unit) (text : Bytes) (table : SpanTable) : Type 0 where
  pub fits : AllFit table
  pub utf8 : IsUtf8 text
  pub printed : text ≡ text_of unit table

-- the run has a file, if that is the column
abbrev pub HasFile : Run → Column → Type 0
HasFile run File = is_some run.file ≡ true
HasFile run column = ⊤

-- each run has a file, if that is a column
abbrev pub HaveFiles : List Column → List Run → Type 0
HaveFiles columns runs = All (λ run. All (HasFile run) columns) runs

-- the run is that of a legal journal
abbrev pub IsOfLegal : Run → Type 0
IsOfLegal run = (strict : Bool) × IsLegal strict run.journal

-- a value for each column
abbrev pub IsKeyOf : List Column → TableKey → Type 0
IsKeyOf [] [] = ⊤
IsKeyOf (column ∷ columns) (value ∷ key) = MayHave column value × IsKeyOf columns key
IsKeyOf columns key = ⊥

-- numbers that a table doesn't have are 0
abbrev pub HasOwn : Schema → Sums → Type 0
HasOwn schema sums = sums ≡ only schema.numbers sums

-- the counts that tell whether a key has anything, and what they come to
abbrev pub counts_of : Of → List Number
counts_of Spans = Count ∷ []
counts_of Async = Closed ∷ Open ∷ Points ∷ []

abbrev pub counted : Of → Sums → ℕ
counted Spans sums = sums.count
counted Async sums = sums.count + (sums.unclosed + sums.points)

-- a key of spans has one; an asynchronous key has a span, closed or open, or a point; as far as a table has these numbers
abbrev pub HasSome : Schema → Sums → Type 0
HasSome schema sums = AreAmong (counts_of schema.of) schema.numbers → 0 < counted schema.of sums

-- a row that a table of a schema may have
pub record IsRowOf (schema : Schema) (row : Row) : Type 0 where
  pub key : IsKeyOf schema.columns row.key
  pub own : HasOwn schema row.sums
  pub some : HasSome schema row.sums
  pub fits : fit row.sums ≡ true

-- none comes twice
abbrev pub AreDistinct : List Bytes → Type 0
AreDistinct [] = ⊤
AreDistinct (name ∷ names) = All (λ other. name ≢ other) names × AreDistinct names

-- the columns that a table may have
pub record AreColumns (of : Of) (columns : List Column) : Type 0 where
  pub some : 0 < length columns
  pub few : length columns ≤ 8
  pub each : All (λ column. is_column column ≡ true) columns
  pub suited : All (λ column. goes_with of column ≡ true) columns
  pub distinct : AreDistinct (map column_name columns)

-- the numbers that a table may have
pub record AreNumbers (of : Of) (numbers : List Number) : Type 0 where
  pub some : 0 < length numbers
  pub each : All (λ number. has_number (all_of of) number ≡ true) numbers
  pub distinct : AreDistinct (map number_name numbers)

-- a schema that a table may have
pub record IsSchema (schema : Schema) : Type 0 where
  pub columns : AreColumns schema.of schema.columns
  pub numbers : AreNumbers schema.of schema.numbers

-- a table whose text can be read back
pub record IsTable (table : SpanTable) : Type 0 where
  pub schema : IsSchema table.schema
  pub counts : counts_fit table.counts ≡ true
  pub few : length table.rows < 2 ^ 64
  pub rows : All (IsRowOf table.schema) table.rows
  pub rise : RowsRise table.rows

-- a part: the text of such a table, in this unit
pub record IsPart (unit : Unit) (text : Bytes) (table : SpanTable) : Type 0 where
  pub is : IsTable table
  pub utf8 : IsUtf8 text
  pub printed : text ≡ text_of unit table

-- a text is that of one table, in one unit
abbrev pub PartsAreDetermined : Type 0
PartsAreDetermined = (unit second : Unit) (text : Bytes) (one other : SpanTable) → IsPart unit text one → IsPart second text other → (unit ≡ second) × (one ≡ other)

-- where all rows are wanted, what is printed of those that are shown is the print of the whole table
abbrev pub AllIsPrinted : Type 0
AllIsPrinted = (unit : Unit) (wanted : Wanted) (table : SpanTable) (text : Bytes) → wants_all wanted ≡ true → IsPrint unit text (shown_table wanted table) → IsPrint unit text table

-- what is printed of the rows that are shown of runs is a part, if the runs have their files, and legal journals
abbrev pub PrintsAreParts : Type 0
PrintsAreParts = (unit : Unit) (schema : Schema) (runs : List Run) (wanted : Wanted) (text : Bytes) → IsSchema schema → HaveFiles schema.columns runs → All IsOfLegal runs →
    IsPrint unit text (shown_table wanted (table_of schema runs)) → IsPart unit text (shown_table wanted (table_of schema runs))

-- of tables that are added, the rows that are shown are those of each that are, added
abbrev pub ShownRowsAdd : Type 0
ShownRowsAdd = (wanted : Wanted) (schema : Schema) (tables : List SpanTable) → shown_table wanted (add_tables schema tables) ≡ add_tables schema (map (shown_table wanted) tables)

-- What holds of all that options and words ask for.
use Rattle.std.specs.{List.list_all, Prelude.{◌≡◌, ◌⊎◌, ◌<◌, ◌^◌, false, true, All, List, [], None, length}}
use Rattle.span_request.specs.{AreColumns, AreNumbers, Bytes, Condition, Microseconds, Number, Of, Options, Programs, Settings, format_of, goes_with, is_plain, shown_numbers, usual_numbers, Asked.Asked, Numbers.numbers_go_with, Request.{AreSound, AsksFor}, Tasks.{IsOptions, default_limit}}
use Rattle.span_request.specs.declared.{tasks.{Request.{Request, TheVariants.Run}, Task.TheVariants.Collect}, views.{TableOptions.TableOptions, View.TheVariants.Report}}

-- the columns by which a table is made of traces are those that a table may have
abbrev pub TablesMayHaveThem : Type 0
TablesMayHaveThem = (options : Options) (asked : Asked) → AreSound options asked → options.add ≡ false → AreColumns asked.of asked.columns

-- Of tables that are added none may be named, which are all of theirs; or those that are named are such columns, if what is summed has them.
abbrev pub AddedTablesMayHaveThem : Type 0
AddedTablesMayHaveThem = (options : Options) (own : Of) (asked : Asked) → AreSound options asked → options.add ≡ true
    → All (λ column. goes_with own column ≡ true) asked.columns → (asked.columns ≡ []) ⊎ AreColumns own asked.columns

-- what is summed has the columns of conditions too
abbrev pub ConditionsMayTestThem : Type 0
ConditionsMayTestThem = (options : Options) (asked : Asked) → AreSound options asked → options.add ≡ false → All (λ (c : Condition). goes_with asked.of c.column ≡ true) asked.conditions

-- the numbers that a text shows of a table that is made of traces are those that a table may have
abbrev pub TablesMayShowThem : Type 0
TablesMayShowThem = (options : Options) (asked : Asked) (table : TableOptions) → AreSound options asked → options.add ≡ false → IsOptions options asked table
    → AreNumbers asked.of (shown_numbers table.numbers asked.of (usual_numbers Programs asked.of))

-- so are those that it shows of tables that are added, if these have them
abbrev pub AddedTablesMayShowThem : Type 0
AddedTablesMayShowThem = (options : Options) (asked : Asked) (table : TableOptions) (of : Of) (own : List Number) → AreSound options asked → IsOptions options asked table
    → AreNumbers of own → numbers_go_with table.numbers of own ≡ true → AreNumbers of (shown_numbers table.numbers of own)

-- the settings where the command line doesn't say
abbrev pub default_settings : Settings
default_settings = record { format = format_of Microseconds; limit = default_limit; seal = false; strict = false; alone = true }

-- the report of the files of these names, collected as one run with the default settings, without warnings
abbrev pub IsReport : List Bytes → Request → Type 0
IsReport names (Run (Collect settings (Report warns)) files) = (settings ≡ default_settings) × (warns ≡ false) × (files.given.items ≡ names) × (files.list ≡ None)
IsReport names request = ⊥

-- words that begin with no hyphen, fewer than 2^64, ask for the report of the files that they name
abbrev pub PlainWordsAskForReports : Type 0
PlainWordsAskForReports = (words : List Bytes) (request : Request) → list_all is_plain words ≡ true → length words < 2 ^ 64 → AsksFor words request →
    IsReport words request

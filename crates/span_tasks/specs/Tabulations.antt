-- What is printed of tables.
use Rattle.std.specs.Prelude.{◌≡◌, ◌⊎◌, ◌≤◌, Bool, true, false, List, ◌∷◌, [], ◌++◌, length}
use Rattle.span_request.specs.declared.tasks.{Items.TheVariants.{Together}, TableText.TheVariants.{Changes, Repetitions, Table}}
use Rattle.span_tasks.specs.{Bytes, FileCountFault, TooGreatFault, number_of, run_line, Unit, Listed, Name, SourceBytes, SpanTable, ComparisonForm, Items, RepeatsForm, TableForm, TableOptions, TableText, Tabulation, Sides.{AreSides, IsOneSide, StopSides, StopsOneSide}, Texts.{IsJson, IsTableText, TableExceeds, changes_fit, changes_text, repeats_fit, repeats_text}, Warnings.warned_of, declared.side.Side.Side}

-- a head says how many runs there are, but that of one run
abbrev pub says_runs : Items → Bool
says_runs (Together settings) = false
says_runs items = true

-- the one table of a side
pub record OneTable (source : SourceBytes) (items : Items) (options : TableOptions) (files : Listed) : Type 0 where
  pub side : Side
  pub is : IsOneSide source items options false files side
  pub table : SpanTable
  pub only : side.tables.items ≡ table ∷ []

-- the one table of each side
pub record BothTables (source : SourceBytes) (items : Items) (options : TableOptions) (base_files files : Listed) : Type 0 where
  pub base : Side
  pub other : Side
  pub are : AreSides source items options false base_files files base other
  pub earlier : SpanTable
  pub later : SpanTable
  pub only_base : base.tables.items ≡ earlier ∷ []
  pub only_other : other.tables.items ≡ later ∷ []

-- each side has a repetition, and at most 64
pub record AreFew (base_names names : List Name) : Type 0 where
  pub some : 1 ≤ length base_names
  pub base : length base_names ≤ 64
  pub other : length names ≤ 64

-- the tables of each side, one for each repetition
pub record Repeated (source : SourceBytes) (items : Items) (options : TableOptions) (base_files files : Listed) : Type 0 where
  pub few : AreFew base_files.names.items files.names.items
  pub base : Side
  pub other : Side
  pub are : AreSides source items options true base_files files base other

-- what is warned of two sides
abbrev pub warned_of_both : Items → Side → Side → Bytes
warned_of_both items base other = warned_of items base.schema.columns (base.tables.items ++ other.tables.items) (base.said.warnings.items ++ other.said.warnings.items)

module _ (source : SourceBytes) (items : Items) (options : TableOptions) (files : Listed) where
  -- this is the text of a table
  pub record MakesText (Is : Unit → SpanTable → Bytes → Type 0) (text : Bytes) : Type 0 where
    pub one : OneTable source items options files
    pub is : Is one.side.unit one.table text

  -- these are its shown rows for other programs
  abbrev pub MakesJson : Bytes → Type 0
  MakesJson text = MakesText (λ unit table. IsJson unit options.shown table) text

-- what comes of the files of a side, and of those of a base, if there is one
module _ (source : SourceBytes) (items : Items) (options : TableOptions) (base_files files : Listed) where
  -- a table is printed
  pub record PrintsTable (form : TableForm) (text lines warnings : Bytes) : Type 0 where
    pub made : MakesText source items options files (λ unit table. IsTableText unit form options (says_runs items) table) text
    pub said : lines ≡ made.one.side.said.lines.items
    pub warned : warnings ≡ warned_of items made.one.side.schema.columns made.one.side.tables.items made.one.side.said.warnings.items

  -- what changed is printed
  pub record PrintsChanges (form : ComparisonForm) (text lines warnings : Bytes) : Type 0 where
    pub both : BothTables source items options base_files files
    pub fits : changes_fit form options both.earlier both.later ≡ true
    pub is : text ≡ changes_text both.base.unit form options (says_runs items) both.earlier both.later
    pub said : lines ≡ both.base.said.lines.items ++ both.other.said.lines.items
    pub warned : warnings ≡ warned_of_both items both.base both.other

  -- how numbers are spread is printed
  pub record PrintsRepetitions (form : RepeatsForm) (text lines warnings : Bytes) : Type 0 where
    pub repeated : Repeated source items options base_files files
    pub fits : repeats_fit repeated.base.schema form options repeated.base.tables.items repeated.other.tables.items ≡ true
    pub is : text ≡ repeats_text repeated.base.unit repeated.base.schema form options repeated.base.tables.items repeated.other.tables.items
    pub said : lines ≡ repeated.base.said.lines.items ++ repeated.other.said.lines.items
    pub warned : warnings ≡ warned_of_both items repeated.base repeated.other

  -- the text that is asked for is printed, these lines are said, and these warnings
  abbrev pub PrintsText : TableText → Bytes → Bytes → Bytes → Type 0
  PrintsText (Table form) text lines warnings = PrintsTable form text lines warnings
  PrintsText (Changes asked) text lines warnings = PrintsChanges asked.form text lines warnings
  PrintsText (Repetitions asked) text lines warnings = PrintsRepetitions asked.form text lines warnings

  -- a number of the text, which is for other programs, has more than 64 bits
  abbrev pub HasTooGreat : TableText → Type 0
  HasTooGreat (Table form) = (one : OneTable source items options files) × TableExceeds form options.shown one.table
  HasTooGreat (Changes asked) = (both : BothTables source items options base_files files) × (changes_fit asked.form options both.earlier both.later ≡ false)
  HasTooGreat (Repetitions asked) = (repeated : Repeated source items options base_files files)
      × (repeats_fit repeated.base.schema asked.form options repeated.base.tables.items repeated.other.tables.items ≡ false)

  -- 41 is said of repetitions that are none, or too many
  abbrev pub SaysNotFew : Bytes → Type 0
  SaysNotFew lines = (AreFew base_files.names.items files.names.items → ⊥) × (lines ≡ run_line (number_of FileCountFault))

  -- this is said where a side gives no tables
  abbrev pub StopsText : TableText → Bytes → Type 0
  StopsText (Table form) lines = StopsOneSide source items options false files.names.items lines
  StopsText (Changes asked) lines = StopSides source items options false base_files files lines
  StopsText (Repetitions asked) lines = SaysNotFew lines ⊎ StopSides source items options true base_files files lines

  -- this is said where no text is printed: a side gives no tables, or a number is too great
  abbrev pub StopsTabulation : TableText → Bytes → Type 0
  StopsTabulation asked lines = StopsText asked lines ⊎ (HasTooGreat asked × (lines ≡ run_line (number_of TooGreatFault)))

abbrev pub Tabulates : SourceBytes → Tabulation → Listed → Listed → Bytes → Bytes → Bytes → Type 0
Tabulates source task base_files files text lines warnings = PrintsText source task.items task.options base_files files task.text text lines warnings

abbrev pub StopsTabulating : SourceBytes → Tabulation → Listed → Listed → Bytes → Type 0
StopsTabulating source task base_files files lines = StopsTabulation source task.items task.options base_files files task.text lines

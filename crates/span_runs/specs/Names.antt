-- The files that a command line names.
use Rattle.std.specs.{List.{list_any, slice_split}, Prelude.{◌≡◌, ◌+◌, ◌<◌, ◌≤◌, ◌⊎◌, ℕ, ◌==◌, if◌then◌else◌, Bool, true, false, List, [], ◌∷◌, ◌++◌, filter, length, map, Option, Some, None, codes}, Str.bytes_eq}
use Rattle.span_runs.specs.{Bytes, FileCount, number_of, run_line, unread_line, Source.{AreFirst, SourceBytes}, declared.{names.Named.Named, source.Name.{Name, TheVariants.{Standard, File}}}}

-- the most bytes that a list may have
abbrev pub most_listed : ℕ
most_listed = 1073741824

-- names end at a NUL where there is one, else at a line feed
abbrev pub separator_of : Bytes → ℕ
separator_of bytes = if list_any (λ byte. byte == 0) bytes then 0 else 10

abbrev pub is_name : Bytes → Bool
is_name [] = false
is_name (byte ∷ name) = true

-- the names in a list: what stands between its separators, unless it is empty
abbrev pub names_in : Bytes → List Bytes
names_in bytes = filter is_name (slice_split (λ byte. byte == separator_of bytes) bytes)

-- the word for standard input
abbrev pub is_standard : Bytes → Bool
is_standard word = bytes_eq word (codes "-")

-- what a word stands for
abbrev pub name_of : Bytes → Name
name_of word = if is_standard word then Standard else File word

abbrev pub names_of : List Bytes → List Name
names_of words = map name_of words

-- the list was read whole, and the names are these and those in it
pub record IsListRead (source : SourceBytes) (list : Bytes) (given names : List Bytes) : Type 0 where
  pub bytes : Bytes
  pub read : AreFirst (most_listed + 1) (source (name_of list)) bytes
  pub within : length bytes ≤ most_listed
  pub all : names ≡ given ++ names_in bytes

-- the files of these names, and of those of a list behind them, which are some together
pub record AreListed (source : SourceBytes) (list : Bytes) (given : List Bytes) (names : List Name) : Type 0 where
  pub listed : List Bytes
  pub read : IsListRead source list given listed
  pub some : 0 < length listed
  pub files : names ≡ names_of listed

-- the files that are given, or those of the list too, where there is one; standard input where nothing is named
abbrev pub NamedBy : SourceBytes → List Bytes → Option Bytes → List Name → Type 0
NamedBy source [] None names = names ≡ Standard ∷ []
NamedBy source (name ∷ given) None names = names ≡ names_of (name ∷ given)
NamedBy source given (Some list) names = AreListed source list given names

abbrev pub AreNamed : SourceBytes → Named → List Name → Type 0
AreNamed source named names = NamedBy source named.given.items named.list names

-- what is said of a list that names nothing: it was not read as text, or there is no name in it, and none beside it
abbrev pub SaysOfList : SourceBytes → List Bytes → Option Bytes → Bytes → Type 0
SaysOfList source given None lines = ⊥
SaysOfList source given (Some list) lines = (lines ≡ unread_line list) ⊎ (IsListRead source list given [] × (lines ≡ run_line (number_of FileCount)))

abbrev pub SaysOfNames : SourceBytes → Named → Bytes → Type 0
SaysOfNames source named lines = SaysOfList source named.given.items named.list lines

-- Why files were not all gathered, and what is said of it.
use Rattle.std.specs.Prelude.{◌≡◌, ◌⊎◌, ℕ, ◌+◌, ◌≤◌, ◌^◌, List, [], ◌∷◌, ◌++◌, flat_map, length, All, Option, Some, None, Result, MatchResult}
use Rattle.span_runs.specs.{Bytes, FileCount, number_of, code_of, Entry, Cause, FileEnd, Input, Asked, RunError, Sealing, Settings, end_lines, fault_line, IsHint, run_line, unread_line, IsNotCollected, run_code, status_of, SealedAccount, Run, Apart.{AddsFile, GathersFiles, IsAccounted}, Inputs.{AreInputs, IsInput}, Runs.shortened, Said.refusal_line, Source.{SourceBytes, printed}, declared.{gathered.Gathered.Gathered, source.Name.Name, stop.Halt.{Halt, TheVariants.{Stopped, Memory}}}}

-- what is said of a stop, perhaps with hints behind it; nothing is known where memory was refused
abbrev pub OfStop : (Bytes → Type 0) → Halt → Type 0
OfStop Says (Stopped stop) = Says stop.lines.items × IsHint stop.hints.items
OfStop Says Memory = Unit {0}

-- the line of a seal that was not taken
abbrev pub unsealed_line : Bytes → Option Cause → Bytes
unsealed_line name None = []
unsealed_line name (Some cause) = fault_line name (code_of cause)

-- what is said of a file whose run ended with 2
abbrev pub cut_lines : Input → List FileEnd → Sealing → Bytes
cut_lines file ends sealing = end_lines (file ∷ []) ends ++ unsealed_line file.name sealing.cause

module _ (source : SourceBytes) (settings : Settings) where
  -- the file of this name was read, and its run was refused, as the line says
  pub record IsRefused (name : Name) (lines : Bytes) : Type 0 where
    pub file : Input
    pub read : IsInput source settings name file
    pub error : RunError
    pub refused : IsNotCollected error (file ∷ []) [] settings
    pub said : lines ≡ run_line (run_code error)

  -- the file of this name was collected alone, and its run ended with 2, as these lines say
  pub record IsCut (name : Name) (lines : Bytes) : Type 0 where
    pub file : Input
    pub read : IsInput source settings name file
    pub ends : List FileEnd
    pub asked : Asked
    pub sealing : Sealing
    pub journal : List Entry
    pub account : SealedAccount (file ∷ []) [] settings ends asked sealing journal
    pub status : status_of ends asked sealing ≡ 2
    pub said : lines ≡ cut_lines file ends sealing

  -- this is said of the file of this name, at which its run stopped: it was not read, was refused, or ended with 2
  abbrev pub StopsAt : Name → Bytes → Type 0
  StopsAt name lines = (lines ≡ unread_line (printed name)) ⊎ (IsRefused name lines ⊎ IsCut name lines)

  -- this is said of the first of these files
  abbrev pub StopsAtFirst : List Name → Bytes → Type 0
  StopsAtFirst [] lines = ⊥
  StopsAtFirst (name ∷ later) lines = StopsAt name lines

  -- The files of the first of these names were collected, each alone, and their lines are said; then something stopped: the next file,
  -- or there are 2^32 files or more.
  pub record StopsAmong (names : List Name) (lines : Bytes) : Type 0 where
    pub done : List Name
    pub later : List Name
    pub split : names ≡ done ++ later
    pub files : List Input
    pub read : AreInputs source settings done files
    pub accounted : All (IsAccounted settings) files
    pub own : Bytes
    pub said : lines ≡ flat_map (refusal_line settings.format) files ++ own
    pub cause : StopsAtFirst later own ⊎ ((2 ^ 32 ≤ length names) × (own ≡ run_line (number_of FileCount)))

-- this is said with lines before it, unless memory for them was refused
abbrev pub HaltsAfter : Bytes → Halt → Halt → Type 0
HaltsAfter lines (Stopped old) (Stopped new) = (new.lines.items ≡ lines ++ old.lines.items) × (new.hints ≡ old.hints)
HaltsAfter lines Memory (Stopped new) = ⊥
HaltsAfter lines old Memory = Unit {0}

-- the same is said, perhaps with a hint behind it
abbrev pub IsHinted : Halt → Halt → Type 0
IsHinted (Stopped old) (Stopped new) = (new.lines ≡ old.lines) × (IsHint old.hints.items → IsHint new.hints.items)
IsHinted Memory Memory = Unit {0}
IsHinted old new = ⊥

-- the files of these names were gathered, or something stopped among them
abbrev pub GathersOrStops : {T : Type 0} → SourceBytes → List Name → Settings → (List Run → T → Type 0) → Result (Gathered T) Halt → Type 0
GathersOrStops source names settings ComeTo result = MatchResult result (GathersFiles source names settings ComeTo) (OfStop (StopsAmong source settings names))

-- these lines are said, and that there are 2^32 runs or more: so many and some more, whatever runs came to this
abbrev pub IsTooMany : {T : Type 0} → (List Run → T → Type 0) → T → ℕ → Bytes → Bytes → Type 0
IsTooMany ComeTo old more before lines = (lines ≡ before ++ run_line (number_of FileCount)) × ((runs : List Run) → ComeTo runs old → 2 ^ 32 ≤ length runs + more)

-- this is said where one more file isn't gathered: it stopped, behind the lines before, or there are 2^32 or more
abbrev pub StopsAfter : {T : Type 0} → SourceBytes → Name → Settings → (List Run → T → Type 0) → Gathered T → Bytes → Type 0
StopsAfter source name settings ComeTo old lines = ((own : Bytes) × StopsAt source settings name own × (lines ≡ old.said.lines.items ++ own)) ⊎ IsTooMany ComeTo old.runs 1 old.said.lines.items lines

-- one more file is gathered, or something stopped at it
abbrev pub AddsOrStops : {T : Type 0} → SourceBytes → Name → Settings → (List Run → T → Type 0) → Gathered T → Result (Gathered T) Halt → Type 0
AddsOrStops source name settings ComeTo old result = MatchResult result (AddsFile source name settings ComeTo old) (OfStop (StopsAfter source name settings ComeTo old))

-- where this is what becomes of files of these names, and that of files of those, the result is what becomes of them together
abbrev pub JoinsFiles : {B T : Type 0} → (B → List Run → T → Type 0) → Result (Gathered T) Halt → Result (Gathered T) Halt → Result (Gathered T) Halt → Type 0
JoinsFiles {B} ComeTo first second both = (source : SourceBytes) (names more : List Name) (settings : Settings) (by : B) →
    (cut : ℕ) → GathersOrStops source names settings (shortened cut (ComeTo by)) first → GathersOrStops source more settings (shortened cut (ComeTo by)) second
    → GathersOrStops source (names ++ more) settings (shortened cut (ComeTo by)) both

-- Files each of which is a run of its own, gathered.
use Rattle.std.specs.Prelude.{◌≡◌, ◌<◌, ℕ, List, [], ◌∷◌, ◌++◌, drop, length, map, All}
use Rattle.span_runs.specs.{Entry, FileEnd, Input, Asked, Sealing, Settings, status_of, SealedAccount, Run, AreAlikeRuns, Inputs.{AreInputs, IsInput}, Runs.{labelled, run_in_turn, run_of_files}, Said.{SaysMore, SaysOfFiles}, Source.SourceBytes, declared.{file_run.FileRun.FileRun, gathered.Gathered.Gathered, said.Said.Said, source.Name.Name}}

-- the run of a file alone
abbrev pub run_alone : Settings → Input → Run
run_alone settings file = run_in_turn settings (file ∷ [])

-- A journal accounts for the file alone, whose run ended, not with 2; and the run is alike the one in which the file's items stand in
-- their order, and then its seals.
pub record IsAccounted (settings : Settings) (file : Input) : Type 0 where
  pub ends : List FileEnd
  pub asked : Asked
  pub sealing : Sealing
  pub journal : List Entry
  pub account : SealedAccount (file ∷ []) [] settings ends asked sealing journal
  pub status : status_of ends asked sealing < 2
  pub alike : AreAlikeRuns (run_of_files (file ∷ []) ends journal) (run_alone settings file)

-- The file of this name was read and collected alone, and its run ended, not with 2.
pub record IsFileRun (source : SourceBytes) (name : Name) (settings : Settings) (run : FileRun) : Type 0 where
  pub read : IsInput source settings name run.file
  pub account : SealedAccount (run.file ∷ []) [] settings run.collected.end.ends.items run.collected.end.asked run.collected.end.sealing run.collected.ledger.journal
  pub status : status_of run.collected.end.ends.items run.collected.end.asked run.collected.end.sealing < 2
  pub one : length run.collected.end.ends.items ≡ 1

-- as a table takes it
abbrev pub run_of : FileRun → Run
run_of run = labelled run.label (run_of_files (run.file ∷ []) run.collected.end.ends.items run.collected.ledger.journal)

-- the same, where the column of files leaves out so many bytes of the name
pub record IsShorter (cut : ℕ) (old new : FileRun) : Type 0 where
  pub file : new.file ≡ old.file
  pub collected : new.collected ≡ old.collected
  pub label : new.label ≡ drop cut old.file.name

-- Each of the files of these names was collected alone; this is what the runs come to, and what is said of the files, both in their
-- order.
pub record AreGathered (source : SourceBytes) (names : List Name) (settings : Settings) (ComeTo : List Run → Type 0) (said : Said) : Type 0 where
  pub files : List Input
  pub read : AreInputs source settings names files
  pub accounted : All (IsAccounted settings) files
  pub runs : ComeTo (map (run_alone settings) files)
  pub says : SaysOfFiles settings files said

-- this is what files of these names come to
abbrev pub GathersFiles : {T : Type 0} → SourceBytes → List Name → Settings → (List Run → T → Type 0) → Gathered T → Type 0
GathersFiles source names settings ComeTo gathered = AreGathered source names settings (λ runs. ComeTo runs gathered.runs) gathered.said

-- one more file is gathered
pub record AddsFile {T : Type 0} (source : SourceBytes) (name : Name) (settings : Settings) (ComeTo : List Run → T → Type 0) (old new : Gathered T) : Type 0 where
  pub file : Input
  pub read : IsInput source settings name file
  pub accounted : IsAccounted settings file
  pub runs : (runs : List Run) → ComeTo runs old.runs → ComeTo (runs ++ run_alone settings file ∷ []) new.runs
  pub says : SaysMore settings file old.said new.said

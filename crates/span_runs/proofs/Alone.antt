-- What was collected of one file alone.
use Rattle.std.proofs.{Common.{◌≡◌, ◌<◌, ℕ, List, [], ◌∷◌, ◌++◌, Some, drop, length, map, ap, append-nil, sym, subst, ◌∙◌}, lemmas.{List.map_push, Slice.Zip.AllZip-long}}
use Rattle.span_collect.proofs.{InTurn.Accounted.{end_lines-in_turn, warnings_of-in_turn}, OneFile.AreSeparate-one}
use Rattle.span_runs.specs.{Bytes, doc, Entry, FileEnd, Input, Asked, Sealing, Settings, EndsAs, Warning, end_lines, status_of, warnings_of, SealedAccount, Run, AreAlikeRuns, Apart.{AddsFile, IsAccounted, IsFileRun, IsShorter, run_alone, run_of}, Gathering.TakesAlike, Inputs.IsInput, Runs.{run_of_files, shorter, shortened}, Said.{SaysOfRun, refusal_line, warnings_alone}, Source.SourceBytes, declared.{file_run.FileRun.FileRun, gathered.Gathered.Gathered, source.Name.Name}}
use Rattle.span_runs.proofs.InTurn.{AreAlikeRuns-in_turn}

-- one file has one end
pub length-alone : (file : Input) (settings : Settings) (ends : List FileEnd) (asked : Asked) (sealing : Sealing) (journal : List Entry) → SealedAccount (file ∷ []) [] settings ends asked sealing journal → length ends ≡ 1
length-alone file settings ends asked sealing journal account =
    AllZip-long (λ (f : Input) (end : FileEnd). EndsAs account.told settings.limit (doc settings.format f.bytes.items) end) (file ∷ []) ends account.account.each_file_once_in_order

module _ (file : Input) (settings : Settings) (ends : List FileEnd) (asked : Asked) (sealing : Sealing) (journal : List Entry)
    (account : SealedAccount (file ∷ []) [] settings ends asked sealing journal) (below : status_of ends asked sealing < 2) where
  -- its run is alike the one of its items in their order
  pub AreAlikeRuns-alone : AreAlikeRuns (run_of_files (file ∷ []) ends journal) (run_alone settings file)
  AreAlikeRuns-alone = AreAlikeRuns-in_turn (file ∷ []) settings ends asked sealing journal account (AreSeparate-one settings.format file) below

  -- it is accounted for
  pub IsAccounted-alone : IsAccounted settings file
  IsAccounted-alone = record {
    ends = ends;
    asked = asked;
    sealing = sealing;
    journal = journal;
    account = account;
    status = below;
    alike = AreAlikeRuns-alone;
  }

  -- its fault lines are its refusal line
  pub end_lines-alone : end_lines (file ∷ []) ends ≡ refusal_line settings.format file
  end_lines-alone = end_lines-in_turn (file ∷ []) [] settings ends asked sealing journal account (AreSeparate-one settings.format file) below ∙ append-nil (refusal_line settings.format file)

  -- and its warnings are those of its items in their order
  pub warnings_of-alone : warnings_of (file ∷ []) ends journal ≡ warnings_alone settings file
  warnings_of-alone = warnings_of-in_turn (file ∷ []) [] settings ends asked sealing journal account (AreSeparate-one settings.format file) below

-- a run whose name is shorter is of the same file
pub IsFileRun-shorter : (source : SourceBytes) (name : Name) (settings : Settings) (cut : ℕ) (old new : FileRun) → IsFileRun source name settings old → IsShorter cut old new → IsFileRun source name settings new
IsFileRun-shorter source name settings cut old new is same =
    let file = sym same.file in
    let collected = sym same.collected in record {
      read = subst (IsInput source settings name) file is.read;
      account = rw (same.file, same.collected) is.account;
      status = rw same.collected is.status;
      one = rw same.collected is.one;
    }

-- where it is shorter, so is the run in which its items stand in their order
pub AreAlikeRuns-shorter : (cut : ℕ) (settings : Settings) (run : FileRun) → run.label ≡ drop cut run.file.name →
    AreAlikeRuns (run_of_files (run.file ∷ []) run.collected.end.ends.items run.collected.ledger.journal) (run_alone settings run.file) → AreAlikeRuns (run_of run) (shorter cut (run_alone settings run.file))
AreAlikeRuns-shorter cut settings run label alike = record { journals = alike.journals; files = alike.files; unread = alike.unread; file = ap Some label }

-- what takes the run of a file, and what is said of it, has the file, of whose name so many bytes are left out
abbrev pub AddsFile-run : {T : Type 0} (source : SourceBytes) (name : Name) (settings : Settings) (cut : ℕ) (ComeTo : List Run → T → Type 0) (run : FileRun) (old new : Gathered T) → IsFileRun source name settings run →
    run.label ≡ drop cut run.file.name → TakesAlike ComeTo old.runs (run_of run) new.runs → SaysOfRun run old.said new.said → AddsFile source name settings (shortened cut ComeTo) old new
AddsFile-run source name settings cut ComeTo run old new is label takes says =
    let end = run.collected.end in
    let journal = run.collected.ledger.journal in
    let alike = AreAlikeRuns-alone run.file settings end.ends.items end.asked end.sealing journal is.account is.status in record {
      file = run.file;
      read = is.read;
      accounted = IsAccounted-alone run.file settings end.ends.items end.asked end.sealing journal is.account is.status;
      runs = λ runs have. subst (λ (all : List Run). ComeTo all new.runs) (sym (map_push (shorter cut) runs (run_alone settings run.file)))
          (takes (map (shorter cut) runs) (shorter cut (run_alone settings run.file)) (AreAlikeRuns-shorter cut settings run label alike) have);
      says = record {
        lines = says.lines ∙ ap (λ (line : Bytes). old.said.lines.items ++ line) (end_lines-alone run.file settings end.ends.items end.asked end.sealing journal is.account is.status);
        warnings = says.warnings ∙ ap (λ (own : List Warning). old.said.warnings.items ++ own) (warnings_of-alone run.file settings end.ends.items end.asked end.sealing journal is.account is.status);
      };
    }

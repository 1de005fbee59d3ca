-- Files that are shown, one after another.
use Rattle.std.specs.Prelude.{map, nat_le}
use Rattle.std.proofs.{Common.{◌≡◌, ◌<◌, ℕ, ◌≤◌, true, false, cond, List, [], ◌∷◌, ◌++◌, length, Option, ap, sym, subst, arith}, lemmas.{Bool.Decides.nat_tests, List.map_push, Slice.Zip.AllZip-long}}
use Rattle.span_collect.proofs.{InTurn.Accounted.{AreAlike-in_turn, end_lines-in_turn, refusals_of-in_turn}, OneFile.AreSeparate-one}
use Rattle.span_page.proofs.{RunsSoFar.Holds-alike, SamePages.{left_behind-follows, run_json-alike}}
use Rattle.span_runs.proofs.GatheredFiles.{AreGathered-none, AreGathered-push}
use Rattle.span_tasks.specs.{Input, Settings, ends_from, journal_in_turn, SpanColumn, BegunPage, Holds, ShownRun, TakesRun, FileRun, IsFileRun, AreInputs, IsInput, Name, SourceBytes, shortened, PageView, Pages.{AreHeld, ShowsFile, IsPageSum, shown_alone, shown_run, shown_runs}, declared.pages.ShownFiles.ShownFiles}

-- what was collected of a file may stand for the run in which its items stand in their order
pub TakesRun-alone : (labels : List SpanColumn) (source : SourceBytes) (name : Name) (settings : Settings) (run : FileRun) (old new : Option BegunPage) →
    IsFileRun source name settings run → TakesRun settings.format.unit labels (shown_run run) old new → TakesRun settings.format.unit labels (shown_alone settings run.file) old new
TakesRun-alone labels source name settings run old new is takes runs holds =
    let files = run.file ∷ [] in
    let end = run.collected.end in
    let journal = run.collected.ledger.journal in
    let other = journal_in_turn settings files [] in
    let separate = AreSeparate-one settings.format run.file in
    let alike = AreAlike-in_turn files [] settings end.ends.items end.asked end.sealing journal is.account separate is.status in
    Holds-alike settings.format.unit labels runs (shown_run run) (shown_alone settings run.file) new
    (run_json-alike labels journal other alike settings.format.unit files end.ends.items (ends_from settings.format 1 files)
    (refusals_of-in_turn files [] settings end.ends.items end.asked end.sealing journal is.account separate is.status)
    (end_lines-in_turn files [] settings end.ends.items end.asked end.sealing journal is.account separate is.status))
    (left_behind-follows labels journal other alike)
    (takes runs holds)

module _ (source : SourceBytes) (cut : ℕ) (settings : Settings) (view : PageView) where
  -- no files
  pub AreHeld-none : (shown : ShownFiles) → IsPageSum view [] shown.summed.runs → shown.summed.said.lines.items ≡ [] → shown.summed.said.warnings.items ≡ [] → Holds settings.format.unit view.labels.items [] shown.page →
      AreHeld (map (shown_alone settings)) source cut [] settings view shown
  AreHeld-none shown sum lines warnings runs = record {
    sums = AreGathered-none source settings (λ runs. shortened cut (IsPageSum view) runs shown.summed.runs) shown.summed.said sum lines warnings;
    runs = runs;
  }

  -- one more file
  pub AreHeld-push : (names : List Name) (name : Name) (old new : ShownFiles) → AreHeld (map (shown_alone settings)) source cut names settings view old →
      ShowsFile source cut name settings view old new → AreHeld (map (shown_alone settings)) source cut (names ++ name ∷ []) settings view new
  AreHeld-push names name old new held shows = record {
    sums = AreGathered-push source names name settings (shortened cut (IsPageSum view)) old.summed new.summed held.sums shows.adds;
    runs = subst (λ (runs : List ShownRun). Holds settings.format.unit view.labels.items runs new.page) (sym (map_push (shown_alone settings) held.sums.files shows.adds.file))
        (shows.page (map (shown_alone settings) held.sums.files) held.runs);
  }

  -- there are as many files as names
  length-files : (names : List Name) (files : List Input) → AreInputs source settings names files → length files ≡ length names
  length-files names files are = AllZip-long (IsInput source settings) names files are

  shown_runs-few : (files : List Input) → length files ≤ 64 → shown_runs settings files ≡ map (shown_alone settings) files
  shown_runs-few files few = ap (λ is. cond is (map (shown_alone settings) files) []) (yes few)
    where
      yes : length files ≤ 64 → nat_le (length files) 64 ≡ true
      yes low = grind (arith, nat_tests)

  shown_runs-many : (files : List Input) → 64 < length files → shown_runs settings files ≡ []
  shown_runs-many files many = ap (λ is. cond is (map (shown_alone settings) files) []) (no many)
    where
      no : 64 < length files → nat_le (length files) 64 ≡ false
      no high = grind (arith, nat_tests)

  -- the runs of few files are shown
  pub AreHeld-few : (names : List Name) (shown : ShownFiles) → length names ≤ 64 → AreHeld (map (shown_alone settings)) source cut names settings view shown → AreHeld (shown_runs settings) source cut names settings view shown
  AreHeld-few names shown few held = record {
    sums = held.sums;
    runs = subst (λ (runs : List ShownRun). Holds settings.format.unit view.labels.items runs shown.page)
        (sym (shown_runs-few held.sums.files (rw (length-files names held.sums.files held.sums.read) few))) held.runs;
  }

  -- those of many are not
  pub AreHeld-many : (names : List Name) (shown : ShownFiles) → 64 < length names → AreHeld (λ files. []) source cut names settings view shown → AreHeld (shown_runs settings) source cut names settings view shown
  AreHeld-many names shown many held = record {
    sums = held.sums;
    runs = subst (λ (runs : List ShownRun). Holds settings.format.unit view.labels.items runs shown.page)
        (sym (shown_runs-many held.sums.files (rw (length-files names held.sums.files held.sums.read) many))) held.runs;
  }

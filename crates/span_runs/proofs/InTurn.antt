-- The run of separate files is alike the one that they give where they are read in turn.
use Rattle.std.proofs.Common.{◌≡◌, ◌<◌, List, [], ◌∷◌, refl}
use Rattle.span_collect.proofs.InTurn.Accounted.{AreAlike-in_turn, unread_of-in_turn}
use Rattle.span_table.proofs.SameTables.{table_of-alike}
use Rattle.span_runs.specs.{Entry, FileEnd, Input, Asked, Sealing, Settings, AreSeparate, status_of, SealedAccount, Schema, AreAlikeRuns, Runs.{run_in_turn, run_of_files, table_of_run}}

module _ (files : List Input) (settings : Settings) (ends : List FileEnd) (asked : Asked) (sealing : Sealing) (journal : List Entry)
    (account : SealedAccount files [] settings ends asked sealing journal) (separate : AreSeparate settings.format files) (below : status_of ends asked sealing < 2) where
  -- the runs are alike
  pub AreAlikeRuns-in_turn : AreAlikeRuns (run_of_files files ends journal) (run_in_turn settings files)
  AreAlikeRuns-in_turn = record {
    journals = AreAlike-in_turn files [] settings ends asked sealing journal account separate below;
    files = refl;
    unread = unread_of-in_turn files [] settings ends asked sealing journal account separate below;
    file = refl;
  }

  -- so they have the same tables
  pub table_of_run-in_turn : (schema : Schema) → table_of_run schema (run_of_files files ends journal) ≡ table_of_run schema (run_in_turn settings files)
  table_of_run-in_turn schema = table_of-alike schema (run_of_files files ends journal ∷ []) (run_in_turn settings files ∷ []) (AreAlikeRuns-in_turn, tt)

-- A run whose output failed.
use Rattle.std.specs.Prelude.{◌≢◌}
use Rattle.std.proofs.Common.{◌≡◌, ℕ, List, ◌∙◌}
use Rattle.span_collect.specs.{Entry, Query, Output, WriteLeaves, SinkState, Run.{IsCutShort, TextOf, status_of}, Seals.SealedAccount, declared.{files.Input.Input, runs.RunEnd.RunEnd, settings.Settings.Settings}}
use Rattle.span_collect.proofs.Statuses.{status_of-lt}

-- what the output took of the text of what was collected
pub IsCutShort-failed : (text : TextOf) (files : List Input) (asks : List Query) (settings : Settings) (run : RunEnd) (journal : List Entry) (written : ℕ) (old new : SinkState) →
    SealedAccount files asks settings run.ends.items run.asked run.sealing journal → run.status ≡ status_of run.ends.items run.asked run.sealing → run.status ≢ 2 →
    WriteLeaves (Output written) (text run.ends.items journal) old new → IsCutShort text files asks settings written old new
IsCutShort-failed text files asks settings run journal written old new account status ended leaves = record {
  ends = run.ends.items;
  asked = run.asked;
  sealing = run.sealing;
  journal = journal;
  account = account;
  status = status_of-lt run.ends.items run.asked run.sealing (λ two. ended (status ∙ two));
  within = leaves.0;
  output = leaves.1;
}

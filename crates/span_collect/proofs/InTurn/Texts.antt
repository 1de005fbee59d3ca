-- A text of what was collected of separate files, which is the one that they give in turn.
use Rattle.std.proofs.Common.{◌≡◌, ℕ, ◌<◌, ◌≤◌, List, length, take, subst}
use Rattle.span_collect.specs.{Entry, Query, Output as OutputFails, WriteLeaves, SinkState, TakesBytes, Fails, InTurn.{AreSeparate, FailsAsInTurn, WritesAsInTurn, text_in_turn}, Run.TextOf, declared.{files.{FileEnd.FileEnd, Input.Input}, runs.RunError.TheVariants.Output, settings.Settings.Settings}}

-- where the files are separate, and the status is below 2, it is that text
abbrev pub IsTextInTurn : TextOf → List Input → List Query → Settings → ℕ → List FileEnd → List Entry → Type 0
IsTextInTurn text files asks settings status ends journal = AreSeparate settings.format files → status < 2 → text ends journal ≡ text_in_turn text files asks settings

module _ (text : TextOf) (files : List Input) (asks : List Query) (settings : Settings) (status : ℕ) (ends : List FileEnd) (journal : List Entry)
    (same : IsTextInTurn text files asks settings status ends journal) (old new : SinkState) where
  -- so it was written
  pub WritesAsInTurn-same : TakesBytes old new (text ends journal) → WritesAsInTurn text files asks settings status old new
  WritesAsInTurn-same takes = λ separate below. subst (λ bytes. TakesBytes old new bytes) (same separate below) takes

  -- or its first bytes
  pub FailsAsInTurn-same : status < 2 → (written : ℕ) → WriteLeaves (OutputFails written) (text ends journal) old new → FailsAsInTurn text (Output written) files asks settings old new
  FailsAsInTurn-same below written leaves = λ separate. subst (λ bytes. (written ≤ length bytes) × Fails old new (take written bytes)) (same separate below) leaves

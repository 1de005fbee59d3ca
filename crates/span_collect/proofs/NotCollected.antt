-- Files that were not collected leave the output as it was.
use Rattle.std.proofs.Common.{List, refl}
use Rattle.span_collect.specs.{Query, SinkState, InTurn.FailsAsInTurn, Run.{IsNotCollected, RunLeaves, TextOf}, declared.{files.Input.Input, runs.RunError.{RunError, TheVariants.{FileCount, Memory, Unaccounted, Output}}, settings.Settings.Settings}}

pub RunLeaves-not_collected : (text : TextOf) (error : RunError) (files : List Input) (asks : List Query) (settings : Settings) (state : SinkState) →
    IsNotCollected error files asks settings → RunLeaves text error files asks settings state state
RunLeaves-not_collected text FileCount files asks settings state is = (is, refl)
RunLeaves-not_collected text Memory files asks settings state is = refl
RunLeaves-not_collected text (Unaccounted entries calls) files asks settings state is = (is, refl)
RunLeaves-not_collected text (Output written) files asks settings state is = absurd is

pub FailsAsInTurn-not_collected : (text : TextOf) (error : RunError) (files : List Input) (asks : List Query) (settings : Settings) (old new : SinkState) →
    IsNotCollected error files asks settings → FailsAsInTurn text error files asks settings old new
FailsAsInTurn-not_collected text FileCount files asks settings old new is = tt
FailsAsInTurn-not_collected text Memory files asks settings old new is = tt
FailsAsInTurn-not_collected text (Unaccounted entries calls) files asks settings old new is = tt
FailsAsInTurn-not_collected text (Output written) files asks settings old new is = absurd is

use Rattle.std.proofs.{Common.{refl, ◌∷◌, []}, lemmas.Str.{IsUtf8-append}}
use Rattle.json.proofs.Printed.Utf8.{IsUtf8-are_ascii}
use Rattle.span_table_text.proofs.members.ended.Goals as goal

pub returns-in-Ok-clause-utf8 : goal.returns-in-Ok-clause-utf8
returns-in-Ok-clause-utf8 c = IsUtf8-append _ (10 ∷ []) c.into_inner-out.ensures.utf8 (IsUtf8-are_ascii (10 ∷ []) refl)

use Rattle.std.proofs.{Common.{◌++◌, ◌∷◌, [], None, arith}, lemmas.Str.Pattern.strip_prefix_char}
use Rattle.json.specs.Print.{escape}
use Rattle.span_table_text.proofs.rows.unquoted.Goals as goal

pub returns-in_default : goal.returns-in_default
returns-in_default c = λ text is. absurd (strip_prefix_char 34 c.args.json.now None c.in_default.ensures.cases (omega arith) (escape text ++ 34 ∷ []) is)

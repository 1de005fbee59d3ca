use Rattle.std.proofs.Common.{◌≡◌, ℕ, List, drop, get_or, Bool, true, false, ◌==◌, if◌then◌else◌, option_map, sym, ap, ◌∙◌, arith, take_all, length-drop}
use Rattle.fast_float.specs.Text.{Parts, scan}
use Rattle.serde_json.specs.{Data.{Num, number}, Read.{number_of, number_from}}
use Rattle.span_read.specs.{Fields.field_value, declared.fields.FieldValue.FieldValue}
use Rattle.span_read.proofs.tokens.number.number_of.Goals as goal

abbrev kind : Num → FieldValue
kind n = field_value (number n)

-- a number without its sign, and then with it
number_of-signed : (s : List ℕ) (minus : Bool) (parts : Parts) → minus ≡ (get_or s 0 0 == 45) → parts ≡ scan (if minus then drop 1 s else s) → option_map kind (number_from minus parts) ≡ option_map kind (number_of s)
unfolding number_of
number_of-signed s true parts signed is = rw (sym signed, is)
number_of-signed s false parts unsigned is = rw (sym unsigned, is)

pub returns-then-has_minus : goal.returns-then-has_minus
returns-then-has_minus c =
    let s = c.as_bytes-bytes.result.now in
    let parts : c.scan.result ≡ scan (drop 1 s) = c.scan.ensures.parts ∙ ap scan (take_all _ (drop 1 s) (omega (arith, length-drop 1 s))) in
    c.negative_value.ensures ∙ number_of-signed s true c.scan.result c.if-has_minus.ensures.value parts ∙ ap (λ text. option_map kind (number_of text)) c.as_bytes-bytes.ensures.value

pub returns-else-has_minus : goal.returns-else-has_minus
returns-else-has_minus c =
    c.unsigned_value.ensures ∙ number_of-signed c.as_bytes-bytes.result.now false c.scan-else-has_minus.result c.if-has_minus.ensures.value c.scan-else-has_minus.ensures.parts
    ∙ ap (λ text. option_map kind (number_of text)) c.as_bytes-bytes.ensures.value

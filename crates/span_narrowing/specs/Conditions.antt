-- Conditions on the values of columns.
use Rattle.std.specs.{Fmt.signed_decimal, Prelude.{Bool, true, false, not, ◌&&◌, if◌then◌else◌, List, [], ◌∷◌, Some, None, codes}, Str.bytes_eq}
use Rattle.span_narrowing.specs.{Bytes, Flag, Nil, Other, TableKey, Value, Whole, Words, has_bytes, declared.conditions.Condition.Condition}

-- the text of a value; the empty one where there is no value
abbrev pub plain_text : Value → Bytes
plain_text None = []
plain_text (Some Nil) = codes "null"
plain_text (Some (Flag false)) = codes "false"
plain_text (Some (Flag true)) = codes "true"
plain_text (Some (Whole number)) = signed_decimal number
plain_text (Some (Words text)) = text
plain_text (Some Other) = codes "..."

-- the text is that of the condition, or contains it
abbrev pub is_so : Condition → Bytes → Bool
is_so condition text = if condition.contains then has_bytes condition.text text else bytes_eq text condition.text

-- the value meets the condition
abbrev pub meets : Condition → Value → Bool
meets condition value = if condition.negated then not (is_so condition (plain_text value)) else is_so condition (plain_text value)

-- each condition holds of the value at its place
abbrev pub all_hold : List Condition → TableKey → Bool
all_hold [] values = true
all_hold (condition ∷ conditions) [] = true
all_hold (condition ∷ conditions) (value ∷ values) = meets condition value && all_hold conditions values

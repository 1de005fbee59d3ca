-- Which numbers of a table a text shows, and by which of them its rows go.
use Rattle.std.specs.Prelude.{if◌then◌else◌, ◌==◌, ◌&&◌, List, [], ◌∷◌, Option, Some, None, get_or, length, unwrap_or}
use Rattle.span_table_text.specs.{Audience, Number, Of, Programs, are_same, has_number, usual_by, usual_numbers, Schema, declared.asked_numbers.AskedNumbers.AskedNumbers}

-- a table's own numbers: the usual ones in the order of this audience
abbrev pub in_order : Audience → Of → List Number → List Number
in_order audience of own = if are_same own (usual_numbers Programs of) then usual_numbers audience of else own

-- a number before these, where it isn't among them
abbrev pub with_first : Option Number → List Number → List Number
with_first None numbers = numbers
with_first (Some by) numbers = if has_number numbers by then numbers else by ∷ numbers

-- the first of two lists that isn't empty
abbrev pub named_or : List Number → List Number → List Number
named_or [] others = others
named_or (number ∷ named) others = number ∷ named

-- the numbers that a text shows of a table's own: those that are named, or all, with that by which rows are to go
abbrev pub shown_numbers : AskedNumbers → Of → List Number → List Number
shown_numbers asked of own = named_or asked.named.items (with_first asked.by (in_order asked.audience of own))

-- the number that rows go by where none is named for it: the first that is shown; of the usual ones the usual one
abbrev pub first_number : AskedNumbers → Schema → Number
first_number asked schema =
    if (length asked.named.items == 0) && are_same schema.numbers (usual_numbers Programs schema.of) then usual_by schema.of else get_or schema.numbers 0 (usual_by schema.of)

abbrev pub leading_number : AskedNumbers → Schema → Number
leading_number asked schema = unwrap_or asked.by (first_number asked schema)

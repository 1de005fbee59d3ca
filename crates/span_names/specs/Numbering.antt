-- Names and their numbers: each text of a list has the number of its place.
use Rattle.std.specs.Prelude.{ℕ, List, [], ◌∷◌, ◌++◌, Option, is_some, position, if◌then◌else◌}
use Rattle.span_names.specs.{Bytes, same_text}

-- the place of a text, where it is in the list
abbrev pub number_in : List Bytes → Bytes → Option ℕ
number_in names text = position (λ name. same_text name text) names

-- the names once the text has a number: it comes last where it is new
abbrev pub with_name : List Bytes → Bytes → List Bytes
with_name names text = if is_some (number_in names text) then names else names ++ text ∷ []

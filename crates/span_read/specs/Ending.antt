-- How a text ends; for private clauses.
use Rattle.std.specs.Prelude.{ℕ, ◌-◌, ◌==◌, List, [], ◌∷◌, length, slice_index, Bool, true, false}
use Rattle.json.specs.Token.{Token}
use Rattle.span_read.specs.Document.{without_trailing_blanks}

-- the last byte that is no blank is a closing bracket
abbrev pub closes_array : List ℕ → Bool
closes_array text = slice_index (without_trailing_blanks text) (length (without_trailing_blanks text) - 1) == 93

-- the tokens of a text with one closing bracket behind it, from those of the text; no token follows a fault
abbrev pub with_bracket : List Token → List Token
with_bracket [] = Token.end_array ∷ []
with_bracket (Token.bad ∷ ts) = Token.bad ∷ ts
with_bracket (t ∷ ts) = t ∷ with_bracket ts

-- the tokens of a text, with or without a closing bracket behind it
abbrev pub ended : Bool → List Token → List Token
ended true ts = with_bracket ts
ended false ts = ts

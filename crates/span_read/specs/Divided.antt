-- A text that may be divided; for private clauses.
use Rattle.std.specs.Prelude.{◌≡◌, List, ◌++◌, Option, Some, None, IfSome}
use Rattle.json.specs.{Lex.tokens, Token.Token}
use Rattle.span_read.specs.{Parts.AreElements, declared.divided.{Divided.Divided, Middle.Middle}}

-- the tokens that are left of a text, with those of the middle if it was divided
abbrev pub left_with : List Token → Option Middle → List Token
left_with ts None = ts
left_with ts (Some middle) = ts ++ (tokens middle.text.now ++ middle.rest)

abbrev pub left_of : Divided → List Token
left_of text = left_with text.tokens.reader text.middle

abbrev pub IsWhole : Divided → Type 0
IsWhole text = text.middle ≡ None

-- the items of the middle, if there is one, are those of its text
abbrev pub IsRead : Divided → Type 0
IsRead text = IfSome text.middle (λ middle. AreElements middle.unit middle.depth middle.text.now middle.items)

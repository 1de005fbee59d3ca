-- Parts of a text that are read side by side; for private clauses.
use Rattle.std.specs.Prelude.{◌≡◌, ⊤, ℕ, List, [], ◌∷◌, ◌++◌, map, true}
use Rattle.json.specs.{Lex.tokens, Token.Token}
use Rattle.span_read.specs.{Item, Unit, Document.opens_with, Element.item_of_data, Tokens.ItemsSoFar}

-- a comma stands between these two texts, behind a closing brace and before an opening one
abbrev pub IsCut : List ℕ → List ℕ → List ℕ → Type 0
IsCut text front rest = (before : List ℕ) × (front ≡ before ++ 125 ∷ []) × (text ≡ front ++ 44 ∷ rest) × (opens_with 123 rest ≡ true)

-- none of the tokens is a fault
abbrev pub AreGood : List Token → Type 0
AreGood [] = ⊤
AreGood (Token.bad ∷ ts) = ⊥
AreGood (t ∷ ts) = AreGood ts

-- a text is elements of an array, which stand at this depth and are these items, whatever comes behind it
pub record AreElements (unit : Unit) (depth : ℕ) (text : List ℕ) (items : List Item) : Type 0 where
  pub good : AreGood (tokens text)
  pub read : (behind : List Token) → ItemsSoFar depth (tokens text ++ behind) behind (λ ds. map (item_of_data unit) ds ≡ items)

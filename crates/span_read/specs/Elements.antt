-- Elements of an array that are collected; for private clauses.
use Rattle.std.specs.Prelude.{◌≡◌, ℕ, ◌<◌, ◌≤◌, List, [], ◌∷◌, ◌++◌, length, map, Bool, true, false}
use Rattle.json.specs.Token.{Token}
use Rattle.serde_json.specs.Data.{Data}
use Rattle.span_read.specs.{Item, Element.item_of_data, Ending.ended, Tokens.ItemsSoFar, declared.{elements.{Elements.Elements, End.End}, format.Format.Format}}
use Rattle.span_read.specs.declared.elements.End.TheVariants as end

-- the items of the elements so far, up to the limit, and whether there were more
pub record AreCollected (format : Format) (elements : Elements) (ds : List Data) : Type 0 where
  pub within : length elements.items ≤ format.most_elements
  pub all : elements.too_many ≡ false → map (item_of_data format.unit) ds ≡ elements.items
  pub over : elements.too_many ≡ true → format.most_elements < length ds

-- these elements were collected behind those of `old`
abbrev pub Adds : Format → Elements → Elements → List Data → Type 0
Adds format old new ds = (before : List Data) → AreCollected format old before → AreCollected format new (before ++ ds)

-- the elements of these items were collected
abbrev pub AddsItems : Format → List Item → Elements → Elements → Type 0
AddsItems format items old new = (ds : List Data) → map (item_of_data format.unit) ds ≡ items → Adds format old new ds

-- of the elements from `start` on some with P were taken, and `left` is left: with and without a closing bracket behind the text, and with more tokens behind it
pub record ReadsSoFar (depth : ℕ) (start left : List Token) (P : List Data → Type 0) : Type 0 where
  pub so_far : (bracket : Bool) → ItemsSoFar depth (ended bracket start) (ended bracket left) P
  pub behind : (more : List Token) → ItemsSoFar depth (start ++ more) (left ++ more) P

-- elements with P were taken, up to the bracket that closes the array, or up to the end of the text
abbrev pub TakesUpTo : End → ℕ → List Token → List Token → (List Data → Type 0) → Type 0
TakesUpTo end.Bracket depth old new P = ItemsSoFar depth old (Token.end_array ∷ new) P
TakesUpTo end.Text depth old new P = (new ≡ []) × ReadsSoFar depth old [] P

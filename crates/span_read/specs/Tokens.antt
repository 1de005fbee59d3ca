-- What the calls that take tokens promise; for private clauses.
use Rattle.std.specs.Prelude.{◌≡◌, ℕ, ◌≤◌, List, [], ◌∷◌, length, Bool, true, false, Option, Some, None, option_and_then, Result, Err}
use Rattle.json.specs.{Json.{value, items, members, parse_map, if_last}, Token.Token}
use Rattle.serde_json.specs.{Data.{Data, array, object, Items, item, Members, no_members}, Read.{of_json, of_items, of_members, converted}}
use Rattle.span_read.specs.{Ending.with_bracket, Fields.field_value, declared.{elements.End.End, error.stop.Stop.{Stop, TheVariants.NotJson}, fields.FieldValue.FieldValue, tokens.{beginning.Beginning.{Beginning, TheVariants.{Object, Array, Words, Whole, Float, Flag, Nil, Other}}, number.Number.Number}}}
use Rattle.span_event.specs.declared.args.ArgValue.TheVariants as arg
use Rattle.span_read.specs.declared.elements.End.TheVariants as end
use Rattle.span_read.specs.declared.tokens.number.Number.TheVariants as number
use Rattle.span_read.specs.declared.fields.FieldValue.TheVariants as field

-- the data of the value that the tokens begin with, and the tokens after it
abbrev pub data_at : ℕ → List Token → Option (Data × List Token)
data_at depth ts = converted of_json (value depth ts)

-- the data that all the tokens are
abbrev pub data_of_all : ℕ → List Token → Option Data
data_of_all depth ts = option_and_then of_json (option_and_then (λ p. if_last p.0 p.1) (value depth ts))

-- a value with P was taken, and `new` is left
abbrev pub TakesValue : ℕ → List Token → List Token → (Data → Type 0) → Type 0
TakesValue depth old new P = (d : Data) × (data_at depth old ≡ Some (d, new)) × P d

-- of an array, whose bracket was taken before, the rest was taken, and its items have P
abbrev pub TakesArray : ℕ → List Token → List Token → (Items → Type 0) → Type 0
TakesArray depth old new P = (ds : Items) × (data_at depth (Token.begin_array ∷ old) ≡ Some (array ds, new)) × P ds

-- the same of an object and its members
abbrev pub TakesObject : ℕ → List Token → List Token → (Members → Type 0) → Type 0
TakesObject depth old new P = (ms : Members) × (data_at depth (Token.begin_object ∷ old) ≡ Some (object ms, new)) × P ms

-- of an array, whose bracket was taken before, the rest was taken; or all that is left of the text was, and one bracket behind it would close the array
abbrev pub TakesElements : End → ℕ → List Token → List Token → (Items → Type 0) → Type 0
TakesElements end.Bracket depth old new P = TakesArray depth old new P
TakesElements end.Text depth old new P = (new ≡ []) × (data_at depth (Token.begin_array ∷ old) ≡ None) × TakesArray depth (with_bracket old) [] P

abbrev pub IsNotJson : {A : Type 0} → Result A Stop → Type 0
IsNotJson r = r ≡ Err NotJson

-- neither an array nor an object
abbrev pub is_leaf : Data → Bool
is_leaf (array ds) = false
is_leaf (object ms) = false
is_leaf _ = true

-- a leaf of that value was taken, however deep it stands
pub record TakesLeaf (v : FieldValue) (old new : List Token) : Type 0 where
  pub found : Data
  pub reads : (depth : ℕ) → data_at depth old ≡ Some (found, new)
  pub leaf : is_leaf found ≡ true
  pub kind : field_value found ≡ v

-- the beginning of a value was taken
abbrev pub TakesBeginning : Beginning → List Token → List Token → Type 0
TakesBeginning Object old new = old ≡ Token.begin_object ∷ new
TakesBeginning Array old new = old ≡ Token.begin_array ∷ new
TakesBeginning (Words s) old new = TakesLeaf (field.Plain (arg.Words s.now)) old new
TakesBeginning (Whole n) old new = TakesLeaf (field.Plain (arg.Whole n)) old new
TakesBeginning (Float x) old new = TakesLeaf (field.Float x) old new
TakesBeginning (Flag b) old new = TakesLeaf (field.Plain (arg.Flag b)) old new
TakesBeginning Nil old new = TakesLeaf (field.Plain arg.Nil) old new
TakesBeginning Other old new = TakesLeaf (field.Plain arg.Other) old new

-- what a number is read as; nothing where it is too large for a float
abbrev pub kind_of : Number → Option FieldValue
kind_of (number.Whole n) = Some (field.Plain (arg.Whole n))
kind_of (number.Float x) = Some (field.Float x)
kind_of number.Other = Some (field.Plain arg.Other)
kind_of number.TooLarge = None

-- ---- loops

abbrev pub items_before : List Data → Items → Items
items_before [] rest = rest
items_before (d ∷ ds) rest = item d (items_before ds rest)

-- of the items from `start` on some with P were taken, and `left` is left
pub record ItemsSoFar (depth : ℕ) (start left : List Token) (P : List Data → Type 0) : Type 0 where
  pub before : List Data
  pub turns : ℕ
  pub enough : length left ≤ turns
  pub same : converted of_items (items (value depth) (length start) start) ≡ parse_map (items_before before) (converted of_items (items (value depth) turns left))
  pub holds : P before

-- of the members from `start` on some with P were taken, and `left` is left
pub record MembersSoFar (depth : ℕ) (start left : List Token) (P : Members → Type 0) : Type 0 where
  pub before : Members
  pub turns : ℕ
  pub enough : length left ≤ turns
  pub same :
      converted (λ ms. of_members ms no_members) (members (value depth) (length start) start) ≡ converted (λ ms. of_members ms before) (members (value depth) turns left)
  pub holds : P before

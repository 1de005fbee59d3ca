-- What is found among the tokens of a line.
use Rattle.std.specs.{Borrow.Bor, Prelude.{◌≡◌, ◌+◌, ◌≤◌, ◌++◌, true, List, All, length, map, Option, Some, None}}
use Rattle.json.specs.{Reads.token_of, declared.token.Token.Token}
use Rattle.span_parts.specs.{Column, Number, AreDistinct, is_column, number_name}
use Rattle.json.specs.Token as spec

-- this was found, and these tokens are behind it
abbrev pub Found : {A : Type 0} → A → List spec.Token → A × Bor (List Token) → Type 0
Found a rest (found, left) = (found ≡ a) × (map token_of left.now ≡ rest)

-- something was found, and this is it
abbrev pub Finds : {A : Type 0} → A → List spec.Token → Option (A × Bor (List Token)) → Type 0
Finds a rest None = ⊥
Finds a rest (Some found) = Found a rest found

-- these tokens are left
abbrev pub Remains : List spec.Token → Option (Bor (List Token)) → Type 0
Remains rest None = ⊥
Remains rest (Some left) = map token_of left.now ≡ rest

-- these columns may come behind those
pub record MayFollow (columns later : List Column) : Type 0 where
  pub each : All (λ column. is_column column ≡ true) later
  pub few : length columns + length later ≤ 8

-- these numbers may come behind those
abbrev pub MayFollowNumbers : List Number → List Number → Type 0
MayFollowNumbers numbers later = AreDistinct (map number_name (numbers ++ later))

-- The conditions that a command line names.
use Rattle.std.specs.{List.list_any, Prelude.{◌≡◌, ◌≢◌, ◌==◌, ◌||◌, if◌then◌else◌, ℕ, Bool, true, false, List, [], ◌∷◌, ◌++◌, codes}}
use Rattle.span_request.specs.{Bytes, Condition, column_name, is_column}

-- the byte of an operator: `=` or `~`
abbrev pub is_operator : ℕ → Bool
is_operator byte = (byte == 61) || (byte == 126)

-- an operator is in it
abbrev pub has_operator : Bytes → Bool
has_operator text = list_any is_operator text

-- a word is parted by its first operator: what stands before it, whether it asks for a text to be contained, and what stands behind it
pub record IsParted (word front : Bytes) (contains : Bool) (text : Bytes) : Type 0 where
  pub parts : word ≡ front ++ ((if contains then codes "~" else codes "=") ++ text)
  pub first : has_operator front ≡ false

-- what negates a condition
abbrev pub mark_of : Bool → Bytes
mark_of negated = if negated then codes "!" else []

-- a `!` at the end of it is not of the name of a column
abbrev pub IsUnmarked : Bytes → Type 0
IsUnmarked name = (front : Bytes) → name ≢ front ++ codes "!"

-- a word is a column, an operator, with a `!` before it where it negates, and a text, which isn't empty where it is to be contained
pub record IsCondition (word : Bytes) (condition : Condition) : Type 0 where
  pub parted : IsParted word (column_name condition.column ++ mark_of condition.negated) condition.contains condition.text
  pub unmarked : condition.negated ≡ false → IsUnmarked (column_name condition.column)
  pub column : is_column condition.column ≡ true
  pub some : condition.contains ≡ true → condition.text ≢ []

-- each word is the condition at its place
abbrev pub AreConditions : List Bytes → List Condition → Type 0
AreConditions [] [] = Unit {0}
AreConditions (word ∷ words) (condition ∷ conditions) = IsCondition word condition × AreConditions words conditions
AreConditions words conditions = ⊥

-- the word is no condition
abbrev pub IsNoCondition : Bytes → Type 0
IsNoCondition word = (condition : Condition) → IsCondition word condition → ⊥

-- not all words are
abbrev pub AreNoConditions : List Bytes → Type 0
AreNoConditions words = (conditions : List Condition) → AreConditions words conditions → ⊥

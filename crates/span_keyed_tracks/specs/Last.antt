-- The last element of a list, and the others.
use Rattle.std.specs.{Option.option_or, Prelude.{List, [], ◌∷◌, Option, Some, None}}

-- the last element, if there is one
abbrev pub last_of : {A : Type 0} → List A → Option A
last_of [] = None
last_of (x ∷ xs) = option_or (last_of xs) (Some x)

-- x before all but the last of xs; nothing, where xs is empty
abbrev pub keep_before : {A : Type 0} → A → List A → List A → List A
keep_before x [] rest = []
keep_before x (y ∷ ys) rest = x ∷ rest

-- all but the last element
abbrev pub without_last : {A : Type 0} → List A → List A
without_last [] = []
without_last (x ∷ xs) = keep_before x xs (without_last xs)

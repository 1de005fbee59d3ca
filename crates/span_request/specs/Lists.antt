-- What a word lists, with commas between.
use Rattle.std.specs.{Global.Global, List.{list_any, slice_split}, Prelude.{◌==◌, ◌||◌, ℕ, Bool, false, List, [], ◌∷◌, Option, Some, None, Vec}, Str.bytes_eq}
use Rattle.span_request.specs.{Bytes}

abbrev pub is_comma : ℕ → Bool
is_comma byte = byte == 44

-- what stands between commas
abbrev pub names_in : Bytes → List Bytes
names_in text = slice_split is_comma text

-- a name comes twice
abbrev pub has_twice : List Bytes → Bool
has_twice [] = false
has_twice (name ∷ names) = list_any (λ other. bytes_eq other name) names || has_twice names

-- what is listed, or none where nothing is listed so
abbrev pub Finds : {A : Type 0} → (List A → Type 0) → Option (Vec A Global) → Type 0
Finds Are (Some listed) = Are listed.items
Finds {A = A} Are None = (listed : List A) → Are listed → ⊥

-- The first lines of a text, and how many are left out.
use Rattle.std.specs.Prelude.{ℕ, ◌-◌, ◌==◌, if◌then◌else◌, List, [], ◌∷◌, ◌++◌, flat_map, length, take, Option, Some, None, codes, decimal}
use Rattle.span_comparisons.specs.{Bytes, line_of}

-- the first of them, so many at most; all, where no number is named
abbrev pub first_of : {A : Type 0} → Option ℕ → List A → List A
first_of None xs = xs
first_of (Some most) xs = take most xs

-- how many are left out, if any are
unfoldable pub more_line : ℕ → Bytes
more_line count = if count == 0 then [] else line_of (codes "more" ∷ decimal count ∷ [])

-- a line for each of the first, and how many are left out
abbrev pub first_lines : {A : Type 0} → (A → Bytes) → Option ℕ → List A → Bytes
first_lines line most xs = flat_map line (first_of most xs) ++ more_line (length xs - length (first_of most xs))

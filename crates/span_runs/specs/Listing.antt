-- How the names in a list are found: byte by byte, with the bytes of a name so far.
use Rattle.std.specs.Prelude.{ℕ, ◌==◌, if◌then◌else◌, List, [], ◌∷◌, ◌++◌}
use Rattle.span_runs.specs.{Bytes}

-- a name, unless it is empty
abbrev pub kept : Bytes → List Bytes
kept [] = []
kept (byte ∷ name) = (byte ∷ name) ∷ []

-- the names in the rest of a list, whose first begins with these bytes
abbrev pub names_from : ℕ → Bytes → Bytes → List Bytes
names_from separator begun [] = kept begun
names_from separator begun (byte ∷ rest) =
    if byte == separator then kept begun ++ names_from separator [] rest else names_from separator (begun ++ byte ∷ []) rest

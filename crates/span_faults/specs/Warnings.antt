-- What is warned of: files of which events were refused.
use Rattle.std.specs.Prelude.{ℕ, ◌+◌, ◌-◌, ◌==◌, if◌then◌else◌, List, [], ◌∷◌, ◌++◌, codes, decimal, flat_map, length, take}
use Rattle.span_faults.specs.{Warning, json_text_of, line_of, numbered}

-- the most files that are listed
abbrev pub most_listed : ℕ
most_listed = 16

-- the line of a file: how many of its events were refused, of how many, and by which number most of them
unfoldable pub warning_line : Warning → List ℕ
warning_line warning =
    codes "tracebook: warning: "
    ++ (json_text_of warning.name
    ++ (codes ": "
    ++ line_of (decimal warning.refused ∷ codes "of" ∷ decimal (warning.accepted + warning.refused) ∷ codes "events refused, most by" ∷ numbered warning.code ∷ [])))

-- how many are not listed, if any
abbrev pub unlisted_line : ℕ → List ℕ
unlisted_line more = if more == 0 then [] else codes "tracebook: warning: files with refused events that are not listed: " ++ (decimal more ++ 10 ∷ [])

-- the lines of these files
abbrev pub warning_lines : List Warning → List ℕ
warning_lines warnings = flat_map warning_line (take most_listed warnings) ++ unlisted_line (length warnings - most_listed)

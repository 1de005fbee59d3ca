-- A JSON text as it may stand in a page: what could end the element that it stands in, or a line of it, is written as an escape.
use Rattle.std.specs.{List.starts_with, Prelude.{ℕ, zero, suc, Bool, nat_eq, if◌then◌else◌, List, [], ◌∷◌, ◌++◌, codes}}

-- what stands for a byte: an escape for `<`, `>` and `&`
unfoldable pub safe_byte : ℕ → List ℕ
safe_byte byte =
    if nat_eq byte 60 then codes "\\u003c" else if nat_eq byte 62 then codes "\\u003e" else if nat_eq byte 38 then codes "\\u0026" else byte ∷ []

-- the text begins with the line separator, U+2028
abbrev pub begins_line : List ℕ → Bool
begins_line text = starts_with nat_eq text (226 ∷ 128 ∷ 168 ∷ [])

-- the text begins with the paragraph separator, U+2029
abbrev pub begins_paragraph : List ℕ → Bool
begins_paragraph text = starts_with nat_eq text (226 ∷ 128 ∷ 169 ∷ [])

-- the text, without its first n bytes, with escapes
abbrev pub safe_after : ℕ → List ℕ → List ℕ
safe_after n [] = []
safe_after (suc n) (byte ∷ text) = safe_after n text
safe_after zero (byte ∷ text) =
    if begins_line (byte ∷ text) then codes "\\u2028" ++ safe_after 2 text
    else if begins_paragraph (byte ∷ text) then codes "\\u2029" ++ safe_after 2 text
    else safe_byte byte ++ safe_after 0 text

-- the text with escapes
abbrev pub safe : List ℕ → List ℕ
safe text = safe_after 0 text

-- A merged text is valid UTF-8.
use Rattle.std.specs.Str.{IsAscii, IsUtf8}
use Rattle.std.proofs.{Common.{◌≡◌, ℕ, zero, suc, ◌+◌, ◌<◌, Bool, true, false, cond, List, [], ◌∷◌, ◌++◌, codes, map, length, drop, get_or, refl, sym, ap, ◌∙◌, subst, arith, append_assoc, length-append}, lemmas.{List.{drop_at, get_or_at, length_push, take_at}, Str.{IsCharBoundary-after_ascii, IsCharBoundary-before_ascii, IsUtf8-append, IsUtf8-drop, IsUtf8-from_ascii, IsUtf8-nil, IsUtf8-take}}}
use Rattle.template_names.specs.{Marks.{Bytes, marks}, Merged.{are_closed, byte_of, merged, written}, declared.marks.Mark.{Mark, TheVariants.{Open, Close, Other}}}
use Rattle.template_names.proofs.MarkLemmas.{bytes-marks}

-- what stands before a character of ASCII, and what behind it
before_and_behind : (front rest : Bytes) (byte : ℕ) → byte < 128 → IsUtf8 (front ++ byte ∷ rest) → IsUtf8 front × IsUtf8 rest
before_and_behind front rest byte small utf8 =
    let text = front ++ byte ∷ rest in
    let n = length front in
    let here : get_or text n 0 ≡ byte = get_or_at front byte rest 0 n refl in
    let ascii : get_or text n 0 < 128 = omega (arith, here) in
    let within : n < length text = omega (arith, length-append front (byte ∷ rest)) in
    let behind : drop (n + 1) text ≡ rest =
    ap (drop (n + 1)) (sym (append_assoc front (byte ∷ []) rest)) ∙ drop_at (front ++ byte ∷ []) rest (n + 1) (length_push front byte) in (
      subst IsUtf8 (take_at front (byte ∷ rest) n refl) (IsUtf8-take text n utf8 (IsCharBoundary-before_ascii text n within ascii)),
      subst IsUtf8 behind (IsUtf8-drop text (n + 1) utf8 (IsCharBoundary-after_ascii text n utf8 within ascii)),
    )

-- one byte more is in front
regrouped : (front rest : Bytes) (byte : ℕ) → IsUtf8 (front ++ byte ∷ rest) → IsUtf8 ((front ++ byte ∷ []) ++ rest)
regrouped front rest byte utf8 = subst IsUtf8 (sym (append_assoc front (byte ∷ []) rest)) utf8

together : (front rest : Bytes) (byte : ℕ) → IsUtf8 ((front ++ byte ∷ []) ++ rest) → IsUtf8 (front ++ byte ∷ rest)
together front rest byte utf8 = subst IsUtf8 (append_assoc front (byte ∷ []) rest) utf8

-- what is written of the marks is valid, with what is in front of them where nothing is open
abbrev IsValid : ℕ → Bytes → List Mark → Type 0
IsValid zero front marks = IsUtf8 (front ++ written 0 marks)
IsValid (suc depth) front marks = IsUtf8 (written (suc depth) marks)

ascii : IsAscii (codes "<$>")
ascii zero = omega arith
ascii (suc zero) = omega arith
ascii (suc (suc zero)) = omega arith
ascii (suc (suc (suc i))) = omega arith

sign : IsUtf8 (codes "<$>")
sign = IsUtf8-from_ascii (codes "<$>") ascii

opened : (front : Bytes) (marks : List Mark) → IsUtf8 front → IsUtf8 (written 1 marks) → IsUtf8 ((front ++ 60 ∷ []) ++ written 0 marks) → (closed : Bool)
    → IsUtf8 (front ++ cond closed (codes "<$>" ++ written 1 marks) (60 ∷ written 0 marks))
opened front marks valid matched unmatched true = IsUtf8-append front (codes "<$>" ++ written 1 marks) valid (IsUtf8-append (codes "<$>") (written 1 marks) sign matched)
opened front marks valid matched unmatched false = together front (written 0 marks) 60 unmatched

IsValid-written : (depth : ℕ) (front : Bytes) (marks : List Mark) → IsUtf8 (front ++ map byte_of marks) → IsValid depth front marks
IsValid-written zero front [] utf8 = utf8
IsValid-written (suc depth) front [] utf8 = IsUtf8-nil
IsValid-written zero front (Open ∷ marks) utf8 =
    let more = regrouped front (map byte_of marks) 60 utf8 in
    let ends = before_and_behind front (map byte_of marks) 60 (omega arith) utf8 in
    opened front marks ends.0 (IsValid-written 1 (front ++ 60 ∷ []) marks more) (IsValid-written 0 (front ++ 60 ∷ []) marks more) (are_closed 1 marks)
IsValid-written zero front (Close ∷ marks) utf8 =
    together front (written 0 marks) 62 (IsValid-written 0 (front ++ 62 ∷ []) marks (regrouped front (map byte_of marks) 62 utf8))
IsValid-written zero front (Other byte ∷ marks) utf8 =
    together front (written 0 marks) byte (IsValid-written 0 (front ++ byte ∷ []) marks (regrouped front (map byte_of marks) byte utf8))
IsValid-written (suc depth) front (Open ∷ marks) utf8 =
    IsValid-written (suc (suc depth)) (front ++ 60 ∷ []) marks (regrouped front (map byte_of marks) 60 utf8)
IsValid-written (suc zero) front (Close ∷ marks) utf8 =
    IsValid-written 0 [] marks (before_and_behind front (map byte_of marks) 62 (omega arith) utf8).1
IsValid-written (suc (suc depth)) front (Close ∷ marks) utf8 =
    IsValid-written (suc depth) (front ++ 62 ∷ []) marks (regrouped front (map byte_of marks) 62 utf8)
IsValid-written (suc depth) front (Other byte ∷ marks) utf8 =
    IsValid-written (suc depth) (front ++ byte ∷ []) marks (regrouped front (map byte_of marks) byte utf8)

pub IsUtf8-merged : (text : Bytes) → IsUtf8 text → IsUtf8 (merged text)
IsUtf8-merged text utf8 = IsValid-written 0 [] (marks text) (subst IsUtf8 (sym (bytes-marks text)) utf8)

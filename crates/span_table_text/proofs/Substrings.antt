-- Bytes that stand in a text.
use Rattle.std.specs.{Cmp.Lexicographic.{pointwise, bytes_decides}, List.starts_with, Prelude.nat_eq, Str.Iter.HasSubslice}
use Rattle.std.proofs.{Common.{◌≡◌, ◌↔◌, [], ◌∷◌, ◌++◌, Bool, true, false, ◌||◌, length, take, drop, refl, sym, ap, ◌∙◌}, lemmas.List.take-append-drop}
use Rattle.span_table_text.specs.{Bytes, Shown.has_bytes}

either : (a b : Bool) → b ≡ true → (a || b) ≡ true
either true b h = refl
either false b h = h

starts-has : (bytes text : Bytes) → starts_with nat_eq text bytes ≡ true → has_bytes bytes text ≡ true
starts-has bytes [] h = h
starts-has bytes (b ∷ text) h = ap (λ s. s || has_bytes bytes text) h

take-front : (bytes rest : Bytes) → take (length bytes) (bytes ++ rest) ≡ bytes
take-front [] rest = refl
take-front (b ∷ bytes) rest = ap (λ l. b ∷ l) (take-front bytes rest)

starts-front : (bytes rest : Bytes) → starts_with nat_eq (bytes ++ rest) bytes ≡ true
starts-front bytes rest = ap (pointwise nat_eq bytes) (take-front bytes rest) ∙ (bytes_decides bytes bytes).1 refl

has_bytes-there : (before bytes rest : Bytes) → has_bytes bytes (before ++ (bytes ++ rest)) ≡ true
has_bytes-there [] bytes rest = starts-has bytes (bytes ++ rest) (starts-front bytes rest)
has_bytes-there (b ∷ before) bytes rest = either (starts_with nat_eq (b ∷ (before ++ (bytes ++ rest))) bytes) (has_bytes bytes (before ++ (bytes ++ rest))) (has_bytes-there before bytes rest)

HasSubslice-starts : (bytes text : Bytes) → starts_with nat_eq text bytes ≡ true → HasSubslice text bytes
HasSubslice-starts bytes text h =
    let front : bytes ≡ take (length bytes) text = (bytes_decides bytes (take (length bytes) text)).0 h in
    ([], drop (length bytes) text, sym (take-append-drop (length bytes) text) ∙ ap (λ l. l ++ drop (length bytes) text) (sym front))

HasSubslice-has : (bytes text : Bytes) → has_bytes bytes text ≡ true → HasSubslice text bytes
HasSubslice-has bytes [] h = HasSubslice-starts bytes [] h
HasSubslice-has bytes (b ∷ text) h = by (starts_with nat_eq (b ∷ text) bytes) refl (HasSubslice-has bytes text) h
  where
    by : (s : Bool) → starts_with nat_eq (b ∷ text) bytes ≡ s → (has_bytes bytes text ≡ true → HasSubslice text bytes) → (s || has_bytes bytes text) ≡ true → HasSubslice (b ∷ text) bytes
    by true e rest h = HasSubslice-starts bytes (b ∷ text) e
    by false e rest h = let found = rest h in (b ∷ found.0, found.1, ap (λ l. b ∷ l) found.2)

-- what is true just where the bytes stand in the text
pub has_bytes-is : (result : Bool) (bytes text : Bytes) → (result ≡ true) ↔ HasSubslice text bytes → result ≡ has_bytes bytes text
has_bytes-is true bytes text h = let found = h.0 refl in sym (ap (has_bytes bytes) found.2 ∙ has_bytes-there found.0 bytes found.1)
has_bytes-is false bytes text h = by (has_bytes bytes text) refl
  where
    by : (b : Bool) → has_bytes bytes text ≡ b → false ≡ b
    by true e = h.1 (HasSubslice-has bytes text e)
    by false e = refl

-- How the marks of a text go on.
use Rattle.std.proofs.{Common.{◌≡◌, ℕ, ◌+◌, ◌-◌, ◌<◌, ◌≤◌, Bool, true, false, cond, [], ◌∷◌, ◌++◌, length, take, drop, get_or, slice_range, sym, ap, ap₂, ◌∙◌, arith, length-drop}, lemmas.List.{drop_more, get_or-drop, take_more}}
use Rattle.template_names.specs.{Marks.{Bytes, is_word_byte, mark_in, marks_behind, symbol_length, word_with}}

-- a word that ends one byte later
longer : (text : Bytes) (word at : ℕ) → word ≤ at → at < length text → slice_range text word at ++ get_or text at 0 ∷ [] ≡ slice_range text word (at + 1)
longer text word at le within =
    let few : at - word < length (drop word text) = omega (arith, length-drop word text) in
    let here : get_or (drop word text) (at - word) 0 ≡ get_or text at 0 = get_or-drop word text (at - word) 0 ∙ ap (λ i. get_or text i 0) (omega arith) in
    ap (λ byte. take (at - word) (drop word text) ++ byte ∷ []) (sym here) ∙ sym (take_more (drop word text) (at - word) 0 few)
    ∙ ap (λ n. take n (drop word text)) (omega arith)

-- where the word begins that ends behind a byte
abbrev pub next_word : Bool → ℕ → ℕ → ℕ
next_word goes_on word at = cond goes_on word (at + 1)

word_with-range : (text : Bytes) (word at : ℕ) → word ≤ at → at < length text → (goes_on : Bool)
    → cond goes_on (slice_range text word at ++ get_or text at 0 ∷ []) [] ≡ slice_range text (next_word goes_on word at) (at + 1)
word_with-range text word at le within true = longer text word at le within
word_with-range text word at le within false = let none : 0 ≡ (at + 1) - (at + 1) = omega arith in ap (λ n. take n (drop (at + 1) text)) none

pub marks_behind-on : (text : Bytes) (word at left symbol word' byte : ℕ) → word ≤ at → at < length text → byte ≡ get_or text at 0
    → symbol ≡ symbol_length left (slice_range text word at) (drop at text) → word' ≡ next_word (is_word_byte byte) word at
    → marks_behind left (slice_range text word at) (drop at text) ≡ mark_in symbol byte ∷ marks_behind (symbol - 1) (slice_range text word' (at + 1)) (drop (at + 1) text)
marks_behind-on text word at left symbol word' byte le within is symbols words =
    let front = slice_range text word at in
    let rest = drop (at + 1) text in
    let split : drop at text ≡ byte ∷ rest = drop_more text at 0 within ∙ ap (λ b. b ∷ rest) (sym is) in
    let one : symbol_length left front (byte ∷ rest) ≡ symbol = ap (symbol_length left front) (sym split) ∙ sym symbols in
    let two : word_with front byte ≡ slice_range text word' (at + 1) =
    ap (λ b. cond (is_word_byte byte) (front ++ b ∷ []) []) is ∙ word_with-range text word at le within (is_word_byte byte) ∙ ap (λ w. slice_range text w (at + 1)) (sym words) in
    ap (marks_behind left front) split ∙ ap₂ (λ (n : ℕ) (w : Bytes). mark_in n byte ∷ marks_behind (n - 1) w rest) one two

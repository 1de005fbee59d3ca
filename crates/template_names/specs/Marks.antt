-- What each byte of a text is where templates are merged: those of an operator behind its word, and of an arrow, neither open nor close.
use Rattle.std.specs.{Char.is_ascii_alphanumeric, Cmp.Lexicographic.pointwise, List.starts_with, Prelude.{ℕ, nat_eq, nat_le, ◌-◌, Bool, ◌||◌, if◌then◌else◌, List, [], ◌∷◌, ◌++◌, codes, length}}
use Rattle.template_names.specs.declared.marks.Mark.{Mark, TheVariants.{Open, Close, Other}}

abbrev pub Bytes : Type 0
Bytes = List ℕ

-- the longer ones first
abbrev pub operators : List Bytes
operators = codes "<=>" ∷ codes "<<=" ∷ codes ">>=" ∷ codes "->*" ∷ codes "<<" ∷ codes ">>" ∷ codes "<=" ∷ codes ">=" ∷ codes "->" ∷ codes "<" ∷ codes ">" ∷ []

abbrev pub arrows : List Bytes
arrows = codes "->" ∷ []

-- the symbols to look for behind this word
abbrev pub symbols_behind : Bytes → List Bytes
symbols_behind word = if pointwise nat_eq word (codes "operator") then operators else arrows

-- the length of the first of these symbols with which the text begins
abbrev pub first_length : List Bytes → Bytes → ℕ
first_length [] text = 0
first_length (symbol ∷ symbols) text = if starts_with nat_eq text symbol then length symbol else first_length symbols text

-- words are of letters, digits, underscores and the bytes of characters beyond ASCII, as identifiers are
abbrev pub is_word_byte : ℕ → Bool
is_word_byte byte = is_ascii_alphanumeric byte || (nat_eq byte 95 || nat_le 128 byte)

-- the word that ends with this byte, one byte longer than the word before it; none where it is in no word
abbrev pub word_with : Bytes → ℕ → Bytes
word_with word byte = if is_word_byte byte then word ++ byte ∷ [] else []

-- what a byte is that is in no symbol
abbrev pub mark_of : ℕ → Mark
mark_of byte = if nat_eq byte 60 then Open else (if nat_eq byte 62 then Close else Other byte)

-- what a byte is with which so many bytes of a symbol begin
abbrev pub mark_in : ℕ → ℕ → Mark
mark_in symbol byte = if nat_eq symbol 0 then mark_of byte else Other byte

-- how many bytes with which the text begins are of a symbol, `left` being those of one that began before it
abbrev pub symbol_length : ℕ → Bytes → Bytes → ℕ
symbol_length left word text = if nat_eq left 0 then first_length (symbols_behind word) text else left

-- what each byte is, behind this word, and `left` bytes of a symbol being left
abbrev pub marks_behind : ℕ → Bytes → Bytes → List Mark
marks_behind left word [] = []
marks_behind left word (byte ∷ text) =
    let symbol = symbol_length left word (byte ∷ text) in
    mark_in symbol byte ∷ marks_behind (symbol - 1) (word_with word byte) text

-- what each byte of a text is
abbrev pub marks : Bytes → List Mark
marks text = marks_behind 0 [] text

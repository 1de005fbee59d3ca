-- The tokens of a text with a closing bracket behind it.
pub mod Turns
pub mod Values
pub mod Whole
use Rattle.std.proofs.{Common.{◌≡◌, ℕ, List, [], ◌∷◌, ◌++◌, Bool, true, false, if◌then◌else◌, refl, sym, ap, ◌∙◌}, lemmas.List.append-nil}
use Rattle.json.specs.{Lex.{token, Mode, between, in_word, in_string, lex, Place, fresh, punctuate, tokens}, Token.{Token, end_array}}
use Rattle.serde_json.specs.Read.{read}
use Rattle.span_read.specs.{Ending.{ended, with_bracket}, Parts.{AreGood}, Tokens.{data_of_all}}
use Rattle.span_read.proofs.Alike.{Alike, TwoEnds, lex_string, unclosed-bad, tokens-alike, Strings.{is_open}, Words.{EndsWord-nothing, EndsWord-bracket}}

abbrev Closes : List Token → List Token → Type 0
Closes ts closed = closed ≡ with_bracket ts

one_more : (t : Token) (ts closed : List Token) → AreGood (t ∷ []) → Closes ts closed → Closes (t ∷ ts) (t ∷ closed)
one_more Token.bad ts closed good is = absurd good
one_more t ts closed good is = ap (λ r. t ∷ r) is

last_bracket : (p : Place) → Closes (punctuate p []) (punctuate p (token end_array ∷ []))
unfolding punctuate
last_bracket fresh = refl
last_bracket p = refl

at_end : (m : Mode) → is_open m [] ≡ false → Alike Closes (lex m []) (lex m (93 ∷ []))
unfolding lex
at_end between closed = record { tokens = last_bracket; colon = refl }
at_end in_word closed = record { tokens = last_bracket; colon = refl }
at_end m closed = absurd (cc)

unclosed : (xs : List ℕ) → is_open in_string xs ≡ true → Alike Closes (lex_string (xs ++ [])) (lex_string (xs ++ 93 ∷ []))
unclosed xs opened = record { tokens = λ p. unclosed-bad xs (93 ∷ []) opened refl refl p ∙ ap with_bracket (sym (unclosed-bad xs [] opened refl refl p)); colon = refl }

-- a closing bracket behind a text is one token more, unless its tokens end with a fault
pub tokens-bracket : (text : List ℕ) → tokens (text ++ 93 ∷ []) ≡ with_bracket (tokens text)
tokens-bracket text =
    let ends : TwoEnds Closes [] (93 ∷ []) = record { grows = record { more = one_more; fault = refl }; first_ends = EndsWord-nothing; second_ends = EndsWord-bracket []; at_end = at_end; unclosed = unclosed } in
    tokens-alike Closes [] (93 ∷ []) ends text ∙ ap (λ t. with_bracket (tokens t)) (append-nil text)

-- what the tokens are, with or without a bracket behind them, is what the text is read as
pub data_of_all-ended : (text : List ℕ) (bracket : Bool) → data_of_all 127 (ended bracket (tokens text)) ≡ read (if bracket then text ++ 93 ∷ [] else text)
data_of_all-ended text true = ap (data_of_all 127) (sym (tokens-bracket text))
data_of_all-ended text false = refl

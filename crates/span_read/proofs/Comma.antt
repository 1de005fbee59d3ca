-- The tokens of two texts with a comma between them.
use Rattle.std.proofs.Common.{◌≡◌, ℕ, List, [], ◌∷◌, ◌++◌, true, false, refl, sym, ap, ◌∙◌, subst}
use Rattle.json.specs.{Lex.{Lexeme, token, Mode, between, in_word, in_string, lex, Place, fresh, after_value, after_comma, punctuate, tokens}, Token.{Token, end_object}}
use Rattle.span_read.specs.{Document.opens_with, Parts.AreGood}
use Rattle.span_read.proofs.{Alike.{Alike, TwoEnds, lex_string, unclosed-bad, tokens-alike, Strings.is_open, Words.EndsWord-brace}, Opening.opens_object-lex}

-- where none of them is a fault, those of the longer text go on
abbrev ContinuesBy : List Token → List Token → List Token → Type 0
ContinuesBy rest ts all = AreGood ts → all ≡ ts ++ rest

good_rest : (t : Token) (ts : List Token) → AreGood (t ∷ ts) → AreGood ts
good_rest Token.bad ts good = absurd good
good_rest t ts good = good

one_more : (rest : List Token) (t : Token) (ts all : List Token) → AreGood (t ∷ []) → ContinuesBy rest ts all → ContinuesBy rest (t ∷ ts) (t ∷ all)
one_more rest t ts all sound is = λ good. ap (λ r. t ∷ r) (is (good_rest t ts good))

last_brace : (p : Place) (ls : List Lexeme) → ContinuesBy (punctuate after_value ls) (punctuate p (token end_object ∷ [])) (punctuate p (token end_object ∷ ls))
unfolding punctuate
last_brace fresh ls = λ good. refl
last_brace after_value ls = λ good. refl
last_brace p ls = λ good. absurd good

module _ (rest : List ℕ) where
  abbrev Continues : List Token → List Token → Type 0
  Continues = ContinuesBy (punctuate after_value (lex between rest))

  at_end : (m : Mode) → is_open m [] ≡ false → Alike Continues (lex m (125 ∷ [])) (lex m (125 ∷ rest))
  unfolding lex
  at_end between closed = record { tokens = λ p. last_brace p (lex between rest); colon = refl }
  at_end in_word closed = record { tokens = λ p. last_brace p (lex between rest); colon = refl }
  at_end m closed = absurd (cc)

  unclosed : (xs : List ℕ) → is_open in_string xs ≡ true → Alike Continues (lex_string (xs ++ 125 ∷ [])) (lex_string (xs ++ 125 ∷ rest))
  unclosed xs opened = record { tokens = λ p good. absurd (subst AreGood (unclosed-bad xs (125 ∷ []) opened refl refl p) good); colon = refl }

  -- without a fault before it, a closing brace ends the tokens of what is before it
  pub tokens-brace : (front : List ℕ) → AreGood (tokens (front ++ 125 ∷ [])) → tokens (front ++ 125 ∷ rest) ≡ tokens (front ++ 125 ∷ []) ++ punctuate after_value (lex between rest)
  tokens-brace front good =
      let ends : TwoEnds Continues (125 ∷ []) (125 ∷ rest) = record { grows = record { more = one_more _; fault = λ none. absurd none }; first_ends = EndsWord-brace []; second_ends = EndsWord-brace rest; at_end = at_end; unclosed = unclosed } in
      tokens-alike Continues (125 ∷ []) (125 ∷ rest) ends front good

after_comma-object : (rest : List ℕ) → opens_with 123 rest ≡ true → punctuate after_value (lex between (44 ∷ rest)) ≡ tokens rest
unfolding lex punctuate
after_comma-object rest opens = let ls = opens_object-lex rest opens in ap (punctuate after_comma) ls.1 ∙ sym (ap (punctuate fresh) ls.1)

-- a comma between an element that ends with a brace and one that begins with one parts the tokens
pub tokens-comma : (front rest : List ℕ) → AreGood (tokens (front ++ 125 ∷ [])) → opens_with 123 rest ≡ true → tokens (front ++ 125 ∷ 44 ∷ rest) ≡ tokens (front ++ 125 ∷ []) ++ tokens rest
tokens-comma front rest good opens = tokens-brace (44 ∷ rest) front good ∙ ap (λ ts. tokens (front ++ 125 ∷ []) ++ ts) (after_comma-object rest opens)

-- The tokens of two texts that begin alike and end otherwise.
pub mod Strings
pub mod Words
use Rattle.std.proofs.Common.{◌≡◌, ℕ, List, [], ◌∷◌, ◌++◌, Bool, true, false, refl, sym, ap, ◌∙◌, subst, subst₂}
use Rattle.json.specs.{Lex.{Lexeme, token, comma, colon, Class, quote, backslash, operator, space, other, class, Mode, between, in_word, in_string, in_escape, lex_byte, lex, string_token, Place, fresh, after_value, after_comma, after_key, begins_colon, may_begin, may_close, if_allowed, place_token, punctuate}, Text.{content, plain}, Token.{Token, begin_object, end_object, begin_array, end_array, key, string, number, boolean, null, bad}, Word.word}
use Rattle.span_read.specs.Parts.{AreGood}
use Rattle.span_read.proofs.Alike.{Strings.{is_open, is_open_at, is_open-append, content-closed, content-open}, Words.{EndsWord, word-behind}}

-- a relation between the tokens of the two that stays where both begin with one more, and holds where both end with a fault
pub record Grows (R : List Token → List Token → Type 0) : Type 0 where
  pub more : (t : Token) (ts us : List Token) → AreGood (t ∷ []) → R ts us → R (t ∷ ts) (t ∷ us)
  pub fault : R (bad ∷ []) (bad ∷ [])

-- lexemes whose tokens it relates, at whatever place
pub record Alike (R : List Token → List Token → Type 0) (ls ms : List Lexeme) : Type 0 where
  pub tokens : (p : Place) → R (punctuate p ls) (punctuate p ms)
  pub colon : begins_colon ms ≡ begins_colon ls

module _ (R : List Token → List Token → Type 0) (grows : Grows R) where
  allowed : (b : Bool) (t : Token) (k l : Place → List Token) (next : Place) → AreGood (t ∷ []) → R (k next) (l next) → R (if_allowed b t k next) (if_allowed b t l next)
  allowed true t k l next good is = grows.more t (k next) (l next) good is
  allowed false t k l next good is = grows.fault

  placed : (p : Place) (t : Token) (b : Bool) (k l : Place → List Token) → ((next : Place) → R (k next) (l next)) → R (place_token p t b k) (place_token p t b l)
  placed p begin_object b k l is = allowed (may_begin p) _ k l _ tt (is fresh)
  placed p end_object b k l is = allowed (may_close p) _ k l _ tt (is after_value)
  placed p begin_array b k l is = allowed (may_begin p) _ k l _ tt (is fresh)
  placed p end_array b k l is = allowed (may_close p) _ k l _ tt (is after_value)
  placed p (key s) b k l is = grows.fault
  placed p (string s) true k l is = allowed (may_begin p) _ k l _ tt (is after_key)
  placed p (string s) false k l is = allowed (may_begin p) _ k l _ tt (is after_value)
  placed p (number s) b k l is = allowed (may_begin p) _ k l _ tt (is after_value)
  placed p (boolean c) b k l is = allowed (may_begin p) _ k l _ tt (is after_value)
  placed p null b k l is = allowed (may_begin p) _ k l _ tt (is after_value)
  placed p bad b k l is = grows.fault

  punctuated : (p : Place) (l : Lexeme) (ls ms : List Lexeme) → Alike R ls ms → R (punctuate p (l ∷ ls)) (punctuate p (l ∷ ms))
  unfolding punctuate
  punctuated after_value comma ls ms is = is.tokens after_comma
  punctuated after_key colon ls ms is = is.tokens fresh
  punctuated p (token t) ls ms is =
      subst (λ b. R (place_token p t (begins_colon ls) (λ next. punctuate next ls)) (place_token p t b (λ next. punctuate next ms))) (sym is.colon) (placed p t (begins_colon ls) (λ next. punctuate next ls) (λ next. punctuate next ms) is.tokens)
  punctuated p l ls ms is = grows.fault

  colon_first : (l : Lexeme) (ls ms : List Lexeme) → begins_colon (l ∷ ms) ≡ begins_colon (l ∷ ls)
  colon_first colon ls ms = refl
  colon_first l ls ms = refl

  one_more : (l : Lexeme) (ls ms : List Lexeme) → Alike R ls ms → Alike R (l ∷ ls) (l ∷ ms)
  one_more l ls ms is = record { tokens = λ p. punctuated p l ls ms is; colon = colon_first l ls ms }

-- nothing follows a fault
pub punctuate-bad : (p : Place) (ls : List Lexeme) → punctuate p (token bad ∷ ls) ≡ bad ∷ []
unfolding punctuate
punctuate-bad fresh ls = refl
punctuate-bad p ls = refl

at_fault : (R : List Token → List Token → Type 0) → Grows R → (ls ms : List Lexeme) → Alike R (token bad ∷ ls) (token bad ∷ ms)
at_fault R grows ls ms = record { tokens = λ p. subst₂ R (sym (punctuate-bad p ls)) (sym (punctuate-bad p ms)) grows.fault; colon = refl }

-- the lexemes from a string on, whose opening quote is before the text
abbrev pub lex_string : List ℕ → List Lexeme
lex_string xs = token (string_token (content plain xs)) ∷ lex in_string xs

-- a string that is not closed by what is behind it is a fault
pub unclosed-bad : (xs behind : List ℕ) → is_open in_string xs ≡ true → is_open in_string behind ≡ true → is_open in_escape behind ≡ true → (p : Place) → punctuate p (lex_string (xs ++ behind)) ≡ bad ∷ []
unclosed-bad xs behind opened plainly escaped p =
    let none = content-open plain (xs ++ behind) (is_open-append in_string xs behind plainly escaped ∙ opened) in
    ap (λ c. punctuate p (token (string_token c) ∷ lex in_string (xs ++ behind))) none ∙ punctuate-bad p (lex in_string (xs ++ behind))

-- two ends of a text that relate the tokens of the whole, also where the text ends within a string
pub record TwoEnds (R : List Token → List Token → Type 0) (first second : List ℕ) : Type 0 where
  pub grows : Grows R
  pub first_ends : EndsWord first
  pub second_ends : EndsWord second
  pub at_end : (m : Mode) → is_open m [] ≡ false → Alike R (lex m first) (lex m second)
  pub unclosed : (xs : List ℕ) → is_open in_string xs ≡ true → Alike R (lex_string (xs ++ first)) (lex_string (xs ++ second))

-- the string is still open after a byte that is no quote
still : (c : Class) (x : ℕ) (xs : List ℕ) → class x ≡ c → is_open in_string (x ∷ xs) ≡ false → is_open_at c (is_open in_escape xs) (is_open in_string xs) ≡ false
still c x xs is closed = ap (λ d. is_open_at d (is_open in_escape xs) (is_open in_string xs)) (sym is) ∙ closed

module _ (R : List Token → List Token → Type 0) (first second : List ℕ) (ends : TwoEnds R first second) where
  at_quote : (xs : List ℕ) (b : Bool) → is_open in_string xs ≡ b → (is_open in_string xs ≡ false → Alike R (lex in_string (xs ++ first)) (lex in_string (xs ++ second))) → Alike R (lex_string (xs ++ first)) (lex_string (xs ++ second))
  at_quote xs true opened again = ends.unclosed xs opened
  at_quote xs false closed again =
      let same = content-closed plain xs first closed ∙ sym (content-closed plain xs second closed) in
      subst (λ c. Alike R (lex_string (xs ++ first)) (token (string_token c) ∷ lex in_string (xs ++ second))) same (one_more R ends.grows _ _ _ (again closed))

  at_word : (x : ℕ) (xs : List ℕ) → Alike R (lex in_word (xs ++ first)) (lex in_word (xs ++ second)) → Alike R (token (word (x ∷ (xs ++ first))) ∷ lex in_word (xs ++ first)) (token (word (x ∷ (xs ++ second))) ∷ lex in_word (xs ++ second))
  at_word x xs again =
      let same = word-behind first ends.first_ends x xs ∙ sym (word-behind second ends.second_ends x xs) in
      subst (λ w. Alike R (token (word (x ∷ (xs ++ first))) ∷ lex in_word (xs ++ first)) (token w ∷ lex in_word (xs ++ second))) same (one_more R ends.grows _ _ _ again)

  step : (m : Mode) (c : Class) (x : ℕ) (xs : List ℕ) → class x ≡ c → is_open m (x ∷ xs) ≡ false → ((n : Mode) → is_open n xs ≡ false → Alike R (lex n (xs ++ first)) (lex n (xs ++ second)))
      → Alike R (lex_byte m c x (xs ++ first) (λ n. lex n (xs ++ first))) (lex_byte m c x (xs ++ second) (λ n. lex n (xs ++ second)))
  step between quote x xs is closed again = at_quote xs _ refl (again in_string)
  step between backslash x xs is closed again = at_fault R ends.grows _ _
  step between operator x xs is closed again = one_more R ends.grows _ _ _ (again between refl)
  step between space x xs is closed again = again between refl
  step between other x xs is closed again = at_word x xs (again in_word refl)
  step in_word operator x xs is closed again = one_more R ends.grows _ _ _ (again between refl)
  step in_word space x xs is closed again = again between refl
  step in_word c x xs is closed again = again in_word refl
  step in_string quote x xs is closed again = again between refl
  step in_string backslash x xs is closed again = again in_escape (still backslash x xs is closed)
  step in_string c x xs is closed again = again in_string (still c x xs is closed)
  step in_escape c x xs is closed again = again in_string closed

  lex-alike : (m : Mode) (xs : List ℕ) → is_open m xs ≡ false → Alike R (lex m (xs ++ first)) (lex m (xs ++ second))
  unfolding lex
  lex-alike in_string [] closed = absurd (cc)
  lex-alike in_escape [] closed = absurd (cc)
  lex-alike m [] closed = ends.at_end m closed
  lex-alike m (x ∷ xs) closed = step m (class x) x xs refl closed (λ n. lex-alike n xs)

  pub tokens-alike : (text : List ℕ) → R (punctuate fresh (lex between (text ++ first))) (punctuate fresh (lex between (text ++ second)))
  tokens-alike text = (lex-alike between text refl).tokens fresh

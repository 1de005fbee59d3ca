-- Where the tokens of a text end with a closing bracket, its last byte that is no blank is one.
use Rattle.std.proofs.Common.{◌≡◌, ℕ, zero, suc, ◌<◌, List, [], ◌∷◌, ◌++◌, length, get_or, Option, Some, None, Bool, true, false, cond, ◌==◌, eqb-true, refl, ap, arith}
use Rattle.json.specs.{Ascii.{true_text, false_text, null_text}, Lex.{Lexeme, token, comma, colon, Class, quote, backslash, operator, space, other, class, Mode, between, in_word, in_string, in_escape, lex_byte, lex, operator_lexeme, string_token, Place, fresh, after_value, after_comma, after_key, begins_colon, may_begin, may_close, if_allowed, place_token, punctuate}, Text.{content, plain}, Token.{Token, begin_object, end_object, begin_array, end_array, key, string, number, boolean, null, bad}, Word.{is_space, word, literal, number_before, after_number, ends_word}}
use Rattle.span_read.specs.Document.{is_blank}
use Rattle.span_read.proofs.Ends.{EndsWith}

not_none : {A P : Type 0} (x : A) (front : List A) → [] ≡ front ++ x ∷ [] → P
not_none x [] e = absurd (cc)
not_none x (y ∷ front) e = absurd (cc)

not_bad : {P : Type 0} (front : List Token) → bad ∷ [] ≡ front ++ end_array ∷ [] → P
not_bad [] e = absurd (cc)
not_bad (t ∷ []) e = absurd (cc)
not_bad (t ∷ u ∷ front) e = absurd (cc)

-- ---- the lexemes

allowed_some : (b : Bool) (t : Token) (k : Place → List Token) (next : Place) → if_allowed b t k next ≡ [] → ⊥
allowed_some true t k next e = cc
allowed_some false t k next e = cc

placed_some : (p : Place) (t : Token) (b : Bool) (k : Place → List Token) → place_token p t b k ≡ [] → ⊥
placed_some p begin_object b k e = allowed_some _ _ k _ e
placed_some p end_object b k e = allowed_some _ _ k _ e
placed_some p begin_array b k e = allowed_some _ _ k _ e
placed_some p end_array b k e = allowed_some _ _ k _ e
placed_some p (key s) b k e = cc
placed_some p (string s) true k e = allowed_some _ _ k _ e
placed_some p (string s) false k e = allowed_some _ _ k _ e
placed_some p (number s) b k e = allowed_some _ _ k _ e
placed_some p (boolean c) b k e = allowed_some _ _ k _ e
placed_some p null b k e = allowed_some _ _ k _ e
placed_some p bad b k e = cc

after_comma_some : (ls : List Lexeme) → punctuate after_comma ls ≡ [] → ⊥
unfolding punctuate
after_comma_some [] e = cc
after_comma_some (token t ∷ ls) e = placed_some after_comma t (begins_colon ls) (λ next. punctuate next ls) e
after_comma_some (comma ∷ ls) e = cc
after_comma_some (colon ∷ ls) e = cc

none_after_value : (ls : List Lexeme) → punctuate after_value ls ≡ [] → ls ≡ []
unfolding punctuate
none_after_value [] e = refl
none_after_value (token t ∷ ls) e = absurd (placed_some after_value t (begins_colon ls) (λ next. punctuate next ls) e)
none_after_value (comma ∷ ls) e = absurd (after_comma_some ls e)
none_after_value (colon ∷ ls) e = absurd (cc)

abbrev Closes : List Lexeme → Type 0
Closes ls = EndsWith (token end_array) ls

abbrev Again : List Lexeme → Type 0
Again ls = (q : Place) (front : List Token) → punctuate q ls ≡ front ++ end_array ∷ [] → Closes ls

one_more : (l : Lexeme) (ls : List Lexeme) → Closes ls → Closes (l ∷ ls)
one_more l ls last = (l ∷ last.0, ap (λ r. l ∷ r) last.1)

allowed_other : (b : Bool) (t : Token) (u : Lexeme) (ls : List Lexeme) (next : Place) (front : List Token) → (t ≡ end_array → ⊥) → if_allowed b t (λ q. punctuate q ls) next ≡ front ++ end_array ∷ [] → Again ls → Closes (u ∷ ls)
allowed_other false t u ls next front not e again = not_bad front e
allowed_other true t u ls next [] not e again = let same : t ≡ end_array = cc in absurd (not same)
allowed_other true t u ls next (v ∷ front) not e again = let rest : punctuate next ls ≡ front ++ end_array ∷ [] = cc in one_more u ls (again next front rest)

allowed_end : (b : Bool) (ls : List Lexeme) (front : List Token) → if_allowed b end_array (λ q. punctuate q ls) after_value ≡ front ++ end_array ∷ [] → Again ls → Closes (token end_array ∷ ls)
allowed_end false ls front e again = not_bad front e
allowed_end true ls [] e again = let none : punctuate after_value ls ≡ [] = cc in ([], ap (λ r. token end_array ∷ r) (none_after_value ls none))
allowed_end true ls (v ∷ front) e again = let rest : punctuate after_value ls ≡ front ++ end_array ∷ [] = cc in one_more _ ls (again after_value front rest)

placed : (p : Place) (t : Token) (b : Bool) (ls : List Lexeme) (front : List Token) → place_token p t b (λ q. punctuate q ls) ≡ front ++ end_array ∷ [] → Again ls → Closes (token t ∷ ls)
placed p begin_object b ls front e again = allowed_other (may_begin p) begin_object _ ls fresh front (λ h. cc) e again
placed p end_object b ls front e again = allowed_other (may_close p) end_object _ ls after_value front (λ h. cc) e again
placed p begin_array b ls front e again = allowed_other (may_begin p) begin_array _ ls fresh front (λ h. cc) e again
placed p end_array b ls front e again = allowed_end (may_close p) ls front e again
placed p (key s) b ls front e again = not_bad front e
placed p (string s) true ls front e again = allowed_other (may_begin p) (key s) _ ls after_key front (λ h. cc) e again
placed p (string s) false ls front e again = allowed_other (may_begin p) (string s) _ ls after_value front (λ h. cc) e again
placed p (number s) b ls front e again = allowed_other (may_begin p) (number s) _ ls after_value front (λ h. cc) e again
placed p (boolean c) b ls front e again = allowed_other (may_begin p) (boolean c) _ ls after_value front (λ h. cc) e again
placed p null b ls front e again = allowed_other (may_begin p) null _ ls after_value front (λ h. cc) e again
placed p bad b ls front e again = not_bad front e

last_lexeme : (p : Place) (ls : List Lexeme) (front : List Token) → punctuate p ls ≡ front ++ end_array ∷ [] → Closes ls
unfolding punctuate
last_lexeme fresh [] front e = not_none end_array front e
last_lexeme after_value [] front e = not_none end_array front e
last_lexeme after_comma [] front e = not_bad front e
last_lexeme after_key [] front e = not_bad front e
last_lexeme fresh (token t ∷ ls) front e = placed fresh t (begins_colon ls) ls front e (λ q f. last_lexeme q ls f)
last_lexeme after_value (token t ∷ ls) front e = placed after_value t (begins_colon ls) ls front e (λ q f. last_lexeme q ls f)
last_lexeme after_comma (token t ∷ ls) front e = placed after_comma t (begins_colon ls) ls front e (λ q f. last_lexeme q ls f)
last_lexeme after_key (token t ∷ ls) front e = placed after_key t (begins_colon ls) ls front e (λ q f. last_lexeme q ls f)
last_lexeme fresh (comma ∷ ls) front e = not_bad front e
last_lexeme after_value (comma ∷ ls) front e = one_more comma ls (last_lexeme after_comma ls front e)
last_lexeme after_comma (comma ∷ ls) front e = not_bad front e
last_lexeme after_key (comma ∷ ls) front e = not_bad front e
last_lexeme fresh (colon ∷ ls) front e = not_bad front e
last_lexeme after_value (colon ∷ ls) front e = not_bad front e
last_lexeme after_comma (colon ∷ ls) front e = not_bad front e
last_lexeme after_key (colon ∷ ls) front e = one_more colon ls (last_lexeme fresh ls front e)

-- ---- the bytes

abbrev pub AreBlank : List ℕ → Type 0
AreBlank xs = (k : ℕ) → k < length xs → is_blank (get_or xs k 0) ≡ true

-- a closing bracket, and nothing but blanks after it
pub record ClosesAt (xs : List ℕ) : Type 0 where
  pub place : ℕ
  pub within : place < length xs
  pub bracket : get_or xs place 0 ≡ 93
  pub blanks : (k : ℕ) → place < k → k < length xs → is_blank (get_or xs k 0) ≡ true

blank_first : (x : ℕ) (xs : List ℕ) → is_blank x ≡ true → AreBlank xs → AreBlank (x ∷ xs)
blank_first x xs blank more zero within = blank
blank_first x xs blank more (suc k) within = more k (omega arith)

here_blanks : (x : ℕ) (xs : List ℕ) → AreBlank xs → (k : ℕ) → 0 < k → k < length (x ∷ xs) → is_blank (get_or (x ∷ xs) k 0) ≡ true
here_blanks x xs more zero past within = absurd (omega arith)
here_blanks x xs more (suc k) past within = more k (omega arith)

here : (x : ℕ) (xs : List ℕ) → x ≡ 93 → AreBlank xs → ClosesAt (x ∷ xs)
here x xs is more = record { place = 0; within = omega arith; bracket = is; blanks = here_blanks x xs more }

later_blanks : (x : ℕ) (xs : List ℕ) (s : ClosesAt xs) (k : ℕ) → suc s.place < k → k < length (x ∷ xs) → is_blank (get_or (x ∷ xs) k 0) ≡ true
later_blanks x xs s zero past within = absurd (omega arith)
later_blanks x xs s (suc k) past within = s.blanks k (omega arith) (omega arith)

later : (x : ℕ) (xs : List ℕ) → ClosesAt xs → ClosesAt (x ∷ xs)
later x xs s = record { place = suc s.place; within = omega (arith, s.within); bracket = s.bracket; blanks = later_blanks x xs s }

space_is : (a b c d : Bool) → cond a quote (cond b backslash (cond c operator (cond d space other))) ≡ space → d ≡ true
space_is true b c d e = absurd (cc)
space_is false true c d e = absurd (cc)
space_is false false true d e = absurd (cc)
space_is false false false true e = refl
space_is false false false false e = absurd (cc)

blank_step : (c : Class) (x : ℕ) (xs : List ℕ) → class x ≡ c → lex_byte between c x xs (λ next. lex next xs) ≡ [] → (lex between xs ≡ [] → AreBlank xs) → AreBlank (x ∷ xs)
blank_step quote x xs is e again = absurd (cc)
blank_step backslash x xs is e again = absurd (cc)
blank_step operator x xs is e again = absurd (cc)
blank_step space x xs is e again = blank_first x xs (space_is _ _ _ (is_space x) is) (again e)
blank_step other x xs is e again = absurd (cc)

blank_lex : (xs : List ℕ) → lex between xs ≡ [] → AreBlank xs
unfolding lex
blank_lex [] e = λ k within. absurd (omega arith)
blank_lex (x ∷ xs) e = blank_step (class x) x xs refl e (blank_lex xs)

no_string : (o : Option (List ℕ)) → token (string_token o) ≡ token end_array → ⊥
no_string None e = cc
no_string (Some s) e = cc

one_of : (b : Bool) (t : Token) → (t ≡ end_array → ⊥) → cond b t bad ≡ end_array → ⊥
one_of true t not e = not e
one_of false t not e = cc

no_number : (t : List ℕ) (o : Option (List ℕ)) → number_before t o ≡ end_array → ⊥
no_number t None e = cc
no_number t (Some rest) e = one_of (ends_word rest) _ (λ h. cc) e

either : (b : Bool) (t u : Token) → (t ≡ end_array → ⊥) → (u ≡ end_array → ⊥) → cond b t u ≡ end_array → ⊥
either true t u f g e = f e
either false t u f g e = g e

no_literal : (name : List ℕ) (u : Token) (t : List ℕ) → (u ≡ end_array → ⊥) → literal name u t ≡ end_array → ⊥
no_literal name u t not e = one_of _ u not e

no_word : (t : List ℕ) → word t ≡ end_array → ⊥
unfolding word
no_word t e = either _ _ _ (no_literal true_text (boolean true) t (λ h. cc)) (either _ _ _ (no_literal false_text (boolean false) t (λ h. cc)) (either _ _ _ (no_literal null_text null t (λ h. cc)) (no_number t (after_number t)))) e

inside : (t u : Token) → token t ≡ token u → t ≡ u
inside t u e = cc

bracket_is : (a b c d f : Bool) → cond a (token begin_object) (cond b (token end_object) (cond c (token begin_array) (cond d (token end_array) (cond f comma colon)))) ≡ token end_array → d ≡ true
bracket_is true b c d f e = absurd (cc)
bracket_is false true c d f e = absurd (cc)
bracket_is false false true d f e = absurd (cc)
bracket_is false false false true f e = refl
bracket_is false false false false true e = absurd (cc)
bracket_is false false false false false e = absurd (cc)

abbrev LexAgain : List ℕ → Type 0
LexAgain xs = (m : Mode) (front : List Lexeme) → lex m xs ≡ front ++ token end_array ∷ [] → ClosesAt xs

emits : (l : Lexeme) (next : Mode) (x : ℕ) (xs : List ℕ) (front : List Lexeme) → l ∷ lex next xs ≡ front ++ token end_array ∷ [] → (l ≡ token end_array → lex next xs ≡ [] → ClosesAt (x ∷ xs)) → LexAgain xs
    → ClosesAt (x ∷ xs)
emits l next x xs [] e at again = let first : l ≡ token end_array = cc in let none : lex next xs ≡ [] = cc in at first none
emits l next x xs (v ∷ front) e at again = let rest : lex next xs ≡ front ++ token end_array ∷ [] = cc in later x xs (again next front rest)

at_operator : (x : ℕ) (xs : List ℕ) (front : List Lexeme) → operator_lexeme x ∷ lex between xs ≡ front ++ token end_array ∷ [] → LexAgain xs → ClosesAt (x ∷ xs)
at_operator x xs front e again = emits (operator_lexeme x) between x xs front e (λ first none. here x xs (eqb-true x 93 (bracket_is _ _ _ (x == 93) _ first)) (blank_lex xs none)) again

step : (m : Mode) (c : Class) (x : ℕ) (xs : List ℕ) (front : List Lexeme) → lex_byte m c x xs (λ next. lex next xs) ≡ front ++ token end_array ∷ [] → LexAgain xs → ClosesAt (x ∷ xs)
step between quote x xs front e again = emits _ in_string x xs front e (λ first none. absurd (no_string (content plain xs) first)) again
step between backslash x xs front e again = emits _ in_word x xs front e (λ first none. absurd (cc)) again
step between operator x xs front e again = at_operator x xs front e again
step between space x xs front e again = later x xs (again between front e)
step between other x xs front e again = emits _ in_word x xs front e (λ first none. absurd (no_word (x ∷ xs) (inside _ _ first))) again
step in_word quote x xs front e again = later x xs (again in_word front e)
step in_word backslash x xs front e again = later x xs (again in_word front e)
step in_word operator x xs front e again = at_operator x xs front e again
step in_word space x xs front e again = later x xs (again between front e)
step in_word other x xs front e again = later x xs (again in_word front e)
step in_string quote x xs front e again = later x xs (again between front e)
step in_string backslash x xs front e again = later x xs (again in_escape front e)
step in_string operator x xs front e again = later x xs (again in_string front e)
step in_string space x xs front e again = later x xs (again in_string front e)
step in_string other x xs front e again = later x xs (again in_string front e)
step in_escape c x xs front e again = later x xs (again in_string front e)

closing_lex : (m : Mode) (xs : List ℕ) (front : List Lexeme) → lex m xs ≡ front ++ token end_array ∷ [] → ClosesAt xs
unfolding lex
closing_lex m [] front e = not_none (token end_array) front e
closing_lex m (x ∷ xs) front e = step m (class x) x xs front e (λ n f. closing_lex n xs f)

pub ClosesAt-tokens : (text : List ℕ) → EndsWith end_array (punctuate fresh (lex between text)) → ClosesAt text
ClosesAt-tokens text last = let ls = last_lexeme fresh (lex between text) last.0 last.1 in closing_lex between text ls.0 ls.1

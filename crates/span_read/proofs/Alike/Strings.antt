-- The content of a string that is closed, with more text behind it, and of one that is not closed.
use Rattle.std.specs.{Char.{is_digit, encode_utf8}, List.prefix_len}
use Rattle.std.proofs.{Common.{◌≡◌, ℕ, ◌+◌, ◌<◌, List, [], ◌∷◌, ◌++◌, length, drop, Bool, true, false, cond, ◌&&◌, ◌==◌, nat_lt, Option, Some, None, option_and_then, eqb-true, refl, sym, ap, ◌∙◌, arith}, lemmas.{Bool.and_parts, List.Sums.prefix_len-le-length}}
use Rattle.json.specs.{Lex.{Class, quote, backslash, operator, space, other, class, Mode, between, in_word, in_string, in_escape}, Text.{code_unit, short_escape, is_high_surrogate, is_low_surrogate, surrogate_pair, Within, plain, after_backslash, after_u, after_high, prepend, content}, Word.{is_operator, is_space}}

abbrev pub is_open_at : Class → Bool → Bool → Bool
is_open_at quote escape string = false
is_open_at backslash escape string = escape
is_open_at operator escape string = string
is_open_at space escape string = string
is_open_at other escape string = string

-- the text ends within the string that the mode is in
abbrev pub is_open : Mode → List ℕ → Bool
is_open between xs = false
is_open in_word xs = false
is_open in_string [] = true
is_open in_string (x ∷ xs) = is_open_at (class x) (is_open in_escape xs) (is_open in_string xs)
is_open in_escape [] = true
is_open in_escape (x ∷ xs) = is_open in_string xs

-- a text that closes no string changes nothing
pub is_open-append : (m : Mode) (xs behind : List ℕ) → is_open in_string behind ≡ true → is_open in_escape behind ≡ true → is_open m (xs ++ behind) ≡ is_open m xs
is_open-append in_string [] behind string escape = string
is_open-append in_string (x ∷ xs) behind string escape = λ i. is_open_at (class x) (is_open-append in_escape xs behind string escape i) (is_open-append in_string xs behind string escape i)
is_open-append in_escape [] behind string escape = escape
is_open-append in_escape (x ∷ xs) behind string escape = is_open-append in_string xs behind string escape
is_open-append m xs behind string escape = refl

by_class : (q s o p escape string : Bool) → is_open_at (cond q quote (cond s backslash (cond o operator (cond p space other)))) escape string ≡ cond q false (cond s escape string)
by_class true s o p escape string = refl
by_class false true o p escape string = refl
by_class false false true p escape string = refl
by_class false false false true escape string = refl
by_class false false false false escape string = refl

-- of the first byte it matters whether it is a quote, and whether it is a backslash
is_open-first : (x : ℕ) (xs : List ℕ) (b : Bool) → is_open in_string (x ∷ xs) ≡ b → cond (x == 34) false (cond (x == 92) (is_open in_escape xs) (is_open in_string xs)) ≡ b
is_open-first x xs b is = sym (by_class (x == 34) (x == 92) (is_operator x) (is_space x) _ _) ∙ is

abbrev mode : Within → Mode
mode plain = in_string
mode after_backslash = in_escape
mode after_u = in_string
mode (after_high h) = in_string

-- ---- hexadecimal digits

abbrev is_hex : ℕ → Bool
is_hex x = is_digit x 16

-- a digit is neither a quote nor a backslash
digit_step : (x : ℕ) (q s escape string : Bool) → (x == 34) ≡ q → (x == 92) ≡ s → is_hex x ≡ true → cond q false (cond s escape string) ≡ string
digit_step x true s escape string is_quote is_escape digit = let none : false ≡ true = ap is_hex (sym (eqb-true x 34 is_quote)) ∙ digit in absurd (cc)
digit_step x false true escape string is_quote is_escape digit = let none : false ≡ true = ap is_hex (sym (eqb-true x 92 is_escape)) ∙ digit in absurd (cc)
digit_step x false false escape string is_quote is_escape digit = refl

is_open-digit : (x : ℕ) (xs : List ℕ) → is_hex x ≡ true → is_open in_string (x ∷ xs) ≡ is_open in_string xs
is_open-digit x xs digit = sym (is_open-first x xs _ refl) ∙ digit_step x _ _ _ _ refl refl digit

four_digits : (a b c d : ℕ) (xs : List ℕ) → (is_hex a && is_hex b && is_hex c && is_hex d) ≡ true → is_open in_string (a ∷ b ∷ c ∷ d ∷ xs) ≡ is_open in_string xs
four_digits a b c d xs digits =
    let three = and_parts (is_hex a && is_hex b && is_hex c) (is_hex d) digits in
    let two = and_parts (is_hex a && is_hex b) (is_hex c) three.0 in
    let one = and_parts (is_hex a) (is_hex b) two.0 in
    is_open-digit a (b ∷ c ∷ d ∷ xs) one.0 ∙ is_open-digit b (c ∷ d ∷ xs) one.1 ∙ is_open-digit c (d ∷ xs) two.1 ∙ is_open-digit d xs three.1

same_digits : (digits : Bool) (u : ℕ) (f g : ℕ → Option (List ℕ)) → (digits ≡ true → f u ≡ g u) → option_and_then f (cond digits (Some u) None) ≡ option_and_then g (cond digits (Some u) None)
same_digits true u f g same = same refl
same_digits false u f g same = refl

-- what four digits and a text behind them give, from what the text gives
same_unit : (a b c d : ℕ) (xs : List ℕ) (is : Bool) (f g : ℕ → Option (List ℕ)) → is_open in_string (a ∷ b ∷ c ∷ d ∷ xs) ≡ is → (is_open in_string xs ≡ is → (u : ℕ) → f u ≡ g u)
    → option_and_then f (code_unit a b c d) ≡ option_and_then g (code_unit a b c d)
unfolding code_unit
same_unit a b c d xs is f g opened same = same_digits _ _ f g (λ digits. same (sym (four_digits a b c d xs digits) ∙ opened) _)

-- what the second half of a surrogate pair gives, from what its digits give
same_pair : (s u : ℕ) (xs : List ℕ) (is p q : Bool) (first second : Option (List ℕ)) → (s == 92) ≡ p → is_open in_string (s ∷ u ∷ xs) ≡ is → (is_open in_string xs ≡ is → first ≡ second) → cond (p && q) first None ≡ cond (p && q) second None
same_pair s u xs is false q first second escape opened same = refl
same_pair s u xs is true false first second escape opened same = refl
same_pair s u xs is true true first second escape opened same = same (ap (λ y. is_open in_string (y ∷ u ∷ xs)) (sym (eqb-true s 92 escape)) ∙ opened)

both_none : {A : Type 0} (b : Bool) → cond {A = Option A} b None None ≡ None
both_none true = refl
both_none false = refl

-- ---- a string that is closed

-- how many digits a text begins with
abbrev hex_len : List ℕ → ℕ
hex_len xs = prefix_len is_hex xs

hex_step : (x : ℕ) (xs behind : List ℕ) (digit : Bool) → is_hex x ≡ digit → is_open in_string (x ∷ xs) ≡ false → (is_open in_string xs ≡ false → hex_len (xs ++ behind) ≡ hex_len xs)
    → cond digit (1 + hex_len (xs ++ behind)) 0 ≡ cond digit (1 + hex_len xs) 0
hex_step x xs behind true is closed again = ap (λ n. 1 + n) (again (sym (is_open-digit x xs is) ∙ closed))
hex_step x xs behind false is closed again = refl

hex_len-closed : (xs behind : List ℕ) → is_open in_string xs ≡ false → hex_len (xs ++ behind) ≡ hex_len xs
hex_len-closed [] behind closed = absurd (cc)
hex_len-closed (x ∷ xs) behind closed = hex_step x xs behind (is_hex x) refl closed (hex_len-closed xs behind)

few_digits : (xs behind : List ℕ) → length xs < 4 → is_open in_string xs ≡ false → hex_len (xs ++ behind) < 4
few_digits xs behind short closed = omega (arith, hex_len-closed xs behind closed, prefix_len-le-length is_hex xs)

few_step : (p q r s : Bool) (n : ℕ) (o : Option ℕ) → cond p (1 + cond q (1 + cond r (1 + cond s (1 + n) 0) 0) 0) 0 < 4 → cond (p && q && r && s) o None ≡ None
few_step true true true true n o less = absurd (omega arith)
few_step p q r s n o less = refl

code_unit-few : (a b c d : ℕ) (xs : List ℕ) → hex_len (a ∷ b ∷ c ∷ d ∷ xs) < 4 → code_unit a b c d ≡ None
unfolding code_unit
code_unit-few a b c d xs less = few_step (is_hex a) (is_hex b) (is_hex c) (is_hex d) (hex_len xs) _ less

after_u-few : (xs : List ℕ) → hex_len xs < 4 → content after_u xs ≡ None
unfolding content
after_u-few (a ∷ b ∷ c ∷ d ∷ xs) less = ap (option_and_then _) (code_unit-few a b c d xs less)
after_u-few xs less = refl

after_u-short : (xs behind : List ℕ) → length xs < 4 → is_open in_string xs ≡ false → content after_u (xs ++ behind) ≡ None
after_u-short xs behind short closed = after_u-few (xs ++ behind) (few_digits xs behind short closed)

pair_few : (p q : Bool) (a b c d : ℕ) (xs : List ℕ) (f : ℕ → Option (List ℕ)) → (p ≡ true → hex_len (a ∷ b ∷ c ∷ d ∷ xs) < 4) → cond (p && q) (option_and_then f (code_unit a b c d)) None ≡ None
pair_few false q a b c d xs f less = refl
pair_few true q a b c d xs f less = ap (λ o. cond q (option_and_then f o) None) (code_unit-few a b c d xs (less refl)) ∙ both_none q

after_high-few : (h s : ℕ) (xs : List ℕ) → ((s == 92) ≡ true → hex_len (drop 1 xs) < 4) → content (after_high h) (s ∷ xs) ≡ None
unfolding content
after_high-few h s (u ∷ a ∷ b ∷ c ∷ d ∷ xs) less = pair_few (s == 92) (u == 117) a b c d xs _ less
after_high-few h s xs less = refl

few_after : (s : ℕ) (xs behind : List ℕ) → length xs < 5 → is_open in_string (s ∷ xs) ≡ false → (s == 92) ≡ true → hex_len (drop 1 (xs ++ behind)) < 4
few_after s [] behind short closed escape = let none : true ≡ false = ap (λ y. is_open in_string (y ∷ [])) (sym (eqb-true s 92 escape)) ∙ closed in absurd (cc)
few_after s (u ∷ xs) behind short closed escape = few_digits xs behind (omega arith) (ap (λ y. is_open in_string (y ∷ u ∷ xs)) (sym (eqb-true s 92 escape)) ∙ closed)

after_high-short : (h s : ℕ) (xs behind : List ℕ) → length xs < 5 → is_open in_string (s ∷ xs) ≡ false → content (after_high h) (s ∷ (xs ++ behind)) ≡ None
after_high-short h s xs behind short closed = after_high-few h s (xs ++ behind) (few_after s xs behind short closed)

plain_same : (q s : Bool) (x : ℕ) (escape string : Bool) (escaped rest more_escaped more : Option (List ℕ)) → cond q false (cond s escape string) ≡ false → (escape ≡ false → more_escaped ≡ escaped) → (string ≡ false → more ≡ rest)
    → cond q (Some []) (cond s more_escaped (cond (nat_lt x 32) None (prepend (x ∷ []) more))) ≡ cond q (Some []) (cond s escaped (cond (nat_lt x 32) None (prepend (x ∷ []) rest)))
plain_same true s x escape string escaped rest more_escaped more closed is_escaped is_rest = refl
plain_same false true x escape string escaped rest more_escaped more closed is_escaped is_rest = is_escaped closed
plain_same false false x escape string escaped rest more_escaped more closed is_escaped is_rest = ap (λ r. cond (nat_lt x 32) None (prepend (x ∷ []) r)) (is_rest closed)

-- the content of a closed string is the same with more text behind it
pub content-closed : (w : Within) (xs behind : List ℕ) → is_open (mode w) xs ≡ false → content w (xs ++ behind) ≡ content w xs
unfolding content
content-closed plain [] behind closed = absurd (cc)
content-closed plain (x ∷ xs) behind closed = plain_same (x == 34) (x == 92) x _ _ _ _ _ _ (is_open-first x xs _ closed) (content-closed after_backslash xs behind) (content-closed plain xs behind)
content-closed after_backslash [] behind closed = absurd (cc)
content-closed after_backslash (x ∷ xs) behind closed =
    λ i. cond (x == 117) (content-closed after_u xs behind closed i) (option_and_then (λ c. prepend (c ∷ []) (content-closed plain xs behind closed i)) (short_escape x))
content-closed after_u (a ∷ b ∷ c ∷ d ∷ xs) behind closed =
    same_unit a b c d xs _ _ _ closed (λ more u i. cond (is_high_surrogate u) (content-closed (after_high u) xs behind more i) (cond (is_low_surrogate u) None (prepend (encode_utf8 u) (content-closed plain xs behind more i))))
content-closed after_u xs behind closed = after_u-short xs behind (omega arith) closed
content-closed (after_high h) (s ∷ u ∷ a ∷ b ∷ c ∷ d ∷ xs) behind closed =
    same_pair s u (a ∷ b ∷ c ∷ d ∷ xs) _ (s == 92) (u == 117) _ _ refl closed (λ rest. same_unit a b c d xs _ _ _ rest (λ more l i. cond (is_low_surrogate l) (prepend (encode_utf8 (surrogate_pair h l)) (content-closed plain xs behind more i)) None))
content-closed (after_high h) (s ∷ xs) behind closed = after_high-short h s xs behind (omega arith) closed
content-closed (after_high h) [] behind closed = absurd (cc)

-- ---- a string that is not closed

plain_none : (q s : Bool) (x : ℕ) (escape string : Bool) (escaped rest : Option (List ℕ)) → cond q false (cond s escape string) ≡ true → (escape ≡ true → escaped ≡ None) → (string ≡ true → rest ≡ None)
    → cond q (Some []) (cond s escaped (cond (nat_lt x 32) None (prepend (x ∷ []) rest))) ≡ None
plain_none true s x escape string escaped rest opened is_escaped is_rest = absurd (cc)
plain_none false true x escape string escaped rest opened is_escaped is_rest = is_escaped opened
plain_none false false x escape string escaped rest opened is_escaped is_rest = ap (λ r. cond (nat_lt x 32) None (prepend (x ∷ []) r)) (is_rest opened) ∙ both_none _

escape_none : (b : Bool) (o : Option ℕ) → cond b None (option_and_then (λ c. prepend (c ∷ []) None) o) ≡ None
escape_none true o = refl
escape_none false None = refl
escape_none false (Some c) = refl

unit_none : (o : Option ℕ) → option_and_then {U = List ℕ} (λ u. None) o ≡ None
unit_none None = refl
unit_none (Some u) = refl

high_none : (b c : Bool) (u : ℕ) (high low : Option (List ℕ)) → high ≡ None → low ≡ None → cond b high (cond c None (prepend (encode_utf8 u) low)) ≡ None
high_none true c u high low is_high is_low = is_high
high_none false true u high low is_high is_low = refl
high_none false false u high low is_high is_low = ap (prepend (encode_utf8 u)) is_low

low_none : (b : Bool) (u : ℕ) (low : Option (List ℕ)) → low ≡ None → cond b (prepend (encode_utf8 u) low) None ≡ None
low_none true u low is = ap (prepend (encode_utf8 u)) is
low_none false u low is = refl

-- a string that is not closed has no content
pub content-open : (w : Within) (xs : List ℕ) → is_open (mode w) xs ≡ true → content w xs ≡ None
unfolding content
content-open plain [] opened = refl
content-open plain (x ∷ xs) opened = plain_none (x == 34) (x == 92) x _ _ _ _ (is_open-first x xs _ opened) (content-open after_backslash xs) (content-open plain xs)
content-open after_backslash [] opened = refl
content-open after_backslash (x ∷ xs) opened =
    (λ i. cond (x == 117) (content-open after_u xs opened i) (option_and_then (λ c. prepend (c ∷ []) (content-open plain xs opened i)) (short_escape x))) ∙ escape_none (x == 117) (short_escape x)
content-open after_u (a ∷ b ∷ c ∷ d ∷ xs) opened =
    same_unit a b c d xs _ _ _ opened (λ more u. high_none _ _ u _ _ (content-open (after_high u) xs more) (content-open plain xs more)) ∙ unit_none (code_unit a b c d)
content-open after_u xs opened = refl
content-open (after_high h) (s ∷ u ∷ a ∷ b ∷ c ∷ d ∷ xs) opened =
    same_pair s u (a ∷ b ∷ c ∷ d ∷ xs) _ (s == 92) (u == 117) _ _ refl opened (λ rest. same_unit a b c d xs _ _ _ rest (λ more l. low_none _ (surrogate_pair h l) _ (content-open plain xs more)) ∙ unit_none (code_unit a b c d)) ∙ both_none _
content-open (after_high h) xs opened = refl

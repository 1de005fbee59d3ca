-- A word with more text behind it that begins with no byte of a word.
use Rattle.std.specs.{Char.is_ascii_digit, List.{prefix_len, starts_with}}
use Rattle.std.proofs.{Common.{◌≡◌, ℕ, ◌+◌, ◌-◌, ◌≤◌, List, [], ◌∷◌, ◌++◌, length, take, drop, Bool, true, false, cond, ◌&&◌, ◌==◌, nat_eq, Option, Some, None, option_map, option_and_then, refl, ap, ◌∙◌, arith}, lemmas.List.{length-append, take-append-le, drop-append-le, Sums.prefix_len-le-length}}
use Rattle.json.specs.{Ascii.{true_text, false_text, null_text}, Token.{Token, number, boolean, null, bad}, Word.{ends_word, after_digits, after_minus, after_sign, after_whole, after_fraction, after_exponent, after_number, number_before, literal, word}}

-- the text begins neither with the name nor with an end of it
abbrev starts_none : List ℕ → List ℕ → Bool
starts_none text [] = true
starts_none text (c ∷ name) = cond (starts_with nat_eq text (c ∷ name)) false (starts_none text name)

-- a word ends before the text, as it does where no text is
pub record EndsWord (behind : List ℕ) : Type 0 where
  pub ends : ends_word behind ≡ true
  pub digits : prefix_len is_ascii_digit behind ≡ 0
  pub minus : after_minus behind ≡ behind
  pub sign : after_sign behind ≡ behind
  pub whole : after_whole behind ≡ None
  pub fraction : after_fraction behind ≡ Some behind
  pub exponent : after_exponent behind ≡ Some behind
  pub no_true : starts_none behind true_text ≡ true
  pub no_false : starts_none behind false_text ≡ true
  pub no_null : starts_none behind null_text ≡ true

pub EndsWord-nothing : EndsWord []
EndsWord-nothing = record { ends = refl; digits = refl; minus = refl; sign = refl; whole = refl; fraction = refl; exponent = refl; no_true = refl; no_false = refl; no_null = refl }

pub EndsWord-bracket : (text : List ℕ) → EndsWord (93 ∷ text)
EndsWord-bracket text = record { ends = refl; digits = refl; minus = refl; sign = refl; whole = refl; fraction = refl; exponent = refl; no_true = refl; no_false = refl; no_null = refl }

pub EndsWord-brace : (text : List ℕ) → EndsWord (125 ∷ text)
EndsWord-brace text = record { ends = refl; digits = refl; minus = refl; sign = refl; whole = refl; fraction = refl; exponent = refl; no_true = refl; no_false = refl; no_null = refl }

abbrev with_behind : List ℕ → Option (List ℕ) → Option (List ℕ)
with_behind behind rest = option_map (λ r. r ++ behind) rest

-- what follows a part of a word has the text behind it
abbrev Keeps : List ℕ → (List ℕ → Option (List ℕ)) → Type 0
Keeps behind after = (t : List ℕ) → after (t ++ behind) ≡ with_behind behind (after t)

abbrev is_word : List ℕ → List ℕ → Bool
is_word name t = starts_with nat_eq t name && ends_word (drop (length name) t)

digits_step : (behind : List ℕ) (b : Bool) (n : ℕ) (t : List ℕ) → n ≤ length t → cond b None (Some (drop n (t ++ behind))) ≡ with_behind behind (cond b None (Some (drop n t)))
digits_step behind true n t within = refl
digits_step behind false n t within = ap Some (drop-append-le n t behind within)

one_less : (behind : List ℕ) (b : Bool) (x : ℕ) (t : List ℕ) → cond b (t ++ behind) (x ∷ (t ++ behind)) ≡ cond b t (x ∷ t) ++ behind
one_less behind true x t = refl
one_less behind false x t = refl

either : (behind : List ℕ) (b : Bool) (o p q r : Option (List ℕ)) → o ≡ with_behind behind q → p ≡ with_behind behind r → cond b o p ≡ with_behind behind (cond b q r)
either behind true o p q r is_first is_second = is_first
either behind false o p q r is_first is_second = is_second

then : (behind : List ℕ) (after : List ℕ → Option (List ℕ)) → Keeps behind after → (o p : Option (List ℕ)) → o ≡ with_behind behind p → option_and_then after o ≡ with_behind behind (option_and_then after p)
then behind after keeps o None is = ap (option_and_then after) is
then behind after keeps o (Some t) is = ap (option_and_then after) is ∙ keeps t

and_more : (b p q r s : Bool) → (p && q) ≡ (r && s) → ((b && p) && q) ≡ ((b && r) && s)
and_more true p q r s is = is
and_more false p q r s is = refl

none_parts : (b rest : Bool) → cond b false rest ≡ true → (b ≡ false) × (rest ≡ true)
none_parts true rest none = absurd (cc)
none_parts false rest none = (refl, none)

module _ (behind : List ℕ) (is : EndsWord behind) where
  ends_word-behind : (t : List ℕ) → ends_word (t ++ behind) ≡ ends_word t
  ends_word-behind [] = is.ends
  ends_word-behind (x ∷ t) = refl

  -- ---- numbers

  prefix_len-behind : (t : List ℕ) → prefix_len is_ascii_digit (t ++ behind) ≡ prefix_len is_ascii_digit t
  prefix_len-behind [] = is.digits
  prefix_len-behind (x ∷ t) = ap (λ n. cond (is_ascii_digit x) (1 + n) 0) (prefix_len-behind t)

  after_digits-behind : Keeps behind after_digits
  after_digits-behind t =
      ap (λ n. cond (n == 0) None (Some (drop n (t ++ behind)))) (prefix_len-behind t) ∙ digits_step behind _ (prefix_len is_ascii_digit t) t (prefix_len-le-length is_ascii_digit t)

  after_minus-behind : (t : List ℕ) → after_minus (t ++ behind) ≡ after_minus t ++ behind
  after_minus-behind [] = is.minus
  after_minus-behind (x ∷ t) = one_less behind _ x t

  after_sign-behind : (t : List ℕ) → after_sign (t ++ behind) ≡ after_sign t ++ behind
  after_sign-behind [] = is.sign
  after_sign-behind (x ∷ t) = one_less behind _ x t

  after_whole-behind : Keeps behind after_whole
  after_whole-behind [] = is.whole
  after_whole-behind (x ∷ t) = either behind _ _ _ _ _ refl (after_digits-behind (x ∷ t))

  after_fraction-behind : Keeps behind after_fraction
  after_fraction-behind [] = is.fraction
  after_fraction-behind (x ∷ t) = either behind _ _ _ _ _ (after_digits-behind t) refl

  after_exponent-behind : Keeps behind after_exponent
  after_exponent-behind [] = is.exponent
  after_exponent-behind (x ∷ t) = either behind _ _ _ _ _ (ap after_digits (after_sign-behind t) ∙ after_digits-behind (after_sign t)) refl

  after_number-behind : Keeps behind after_number
  unfolding after_number
  after_number-behind t =
      let whole = ap after_whole (after_minus-behind t) ∙ after_whole-behind (after_minus t) in
      then behind after_exponent after_exponent-behind _ _ (then behind after_fraction after_fraction-behind _ _ whole)

  number_before-behind : (t : List ℕ) (o : Option (List ℕ)) → number_before (t ++ behind) (with_behind behind o) ≡ number_before t o
  number_before-behind t None = refl
  number_before-behind t (Some rest) =
      let same : length (t ++ behind) - length (rest ++ behind) ≡ length t - length rest = omega (arith, length-append t behind, length-append rest behind) in
      let taken : take (length (t ++ behind) - length (rest ++ behind)) (t ++ behind) ≡ take (length t - length rest) t = ap (λ n. take n (t ++ behind)) same ∙ take-append-le (length t - length rest) t behind (omega arith) in
      λ i. cond (ends_word-behind rest i) (number (taken i)) bad

  -- ---- literals

  is_word-behind : (name t : List ℕ) → starts_none behind name ≡ true → is_word name (t ++ behind) ≡ is_word name t
  is_word-behind [] t none = ends_word-behind t
  is_word-behind (c ∷ name) [] none = ap (λ b. b && ends_word (drop (length (c ∷ name)) behind)) (none_parts _ _ none).0
  is_word-behind (c ∷ name) (x ∷ t) none = and_more (nat_eq c x) _ _ _ _ (is_word-behind name t (none_parts _ _ none).1)

  literal-behind : (name : List ℕ) (u : Token) (t : List ℕ) → starts_none behind name ≡ true → literal name u (t ++ behind) ≡ literal name u t
  literal-behind name u t none = ap (λ b. cond b u bad) (is_word-behind name t none)

  -- a word is the same with the text behind it
  pub word-behind : (x : ℕ) (xs : List ℕ) → word (x ∷ (xs ++ behind)) ≡ word (x ∷ xs)
  unfolding word
  word-behind x xs =
      let t = x ∷ xs in
      let is_true = literal-behind true_text (boolean true) t is.no_true in
      let is_false = literal-behind false_text (boolean false) t is.no_false in
      let is_null = literal-behind null_text null t is.no_null in
      let is_number = ap (number_before (t ++ behind)) (after_number-behind t) ∙ number_before-behind t (after_number t) in
      λ i. cond (x == 116) (is_true i) (cond (x == 102) (is_false i) (cond (x == 110) (is_null i) (is_number i)))

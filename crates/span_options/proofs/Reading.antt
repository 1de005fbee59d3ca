-- What the getters of the matches say, as the entries of the matches have it.
use Rattle.std.proofs.Common.{◌≡◌, ℕ, Bool, [], Option, Some, None, Result, cond, true, false, refl, sym, ap, ◌<◌, ◌^◌, arith}
use Rattle.std.specs.Prelude.{option_map, option_and_then, unwrap_or, codes}
use Rattle.std.specs.Option.{option_map_or}
use Rattle.std.specs.Str.{bytes_eq}
use Rattle.std.specs.Str.Parse.{IsNumeral, ParsesUnsigned, digits_value, without_leading_plus}
use Rattle.clap.specs.Matches.{first_value, matched_of, raw_values, ReadsOne}
use Rattle.clap.specs.Walk.{rows_of, Text}
use Rattle.clap.specs.ValueTests.{is_unsigned_in}
use Rattle.clap.specs.declared.parser.matches.Found.{Found}
use Rattle.clap.specs.declared.builder.value_parser.ValueParser.TheVariants.{Unsigned}
use Rattle.clap.proofs.WalkLemmas.{first_value-rows, raw_values-rows}
use Rattle.clap.proofs.ValueTestLemmas.{accepts-Accepts, Accepts-accepts}
use Rattle.span_options.specs.Given.{as_number, is_on, texts_of}
use Rattle.span_options.specs.Command.{greatest}

pub is_on-first : (name : Text) (found : Found) → is_on name (rows_of found) ≡ option_map_or (λ value. bytes_eq value (codes "true")) (first_value found name) false
is_on-first name found = ap (λ value. option_map_or (λ text. bytes_eq text (codes "true")) value false) (sym (first_value-rows found name))

pub texts_of-all : (name : Text) (found : Found) → texts_of name (rows_of found) ≡ unwrap_or (option_map raw_values (matched_of found name)) []
texts_of-all name found = ap (λ values. unwrap_or values []) (sym (raw_values-rows found name))

as_number-some : (text : Text) (n : ℕ) → IsNumeral 10 (without_leading_plus text) → digits_value 10 (without_leading_plus text) < 2 ^ 32
    → n ≡ digits_value 10 (without_leading_plus text) → Some n ≡ as_number text
as_number-some text n numeral fits is =
    rw (Accepts-accepts false (Unsigned 0 greatest) text (numeral, omega arith, omega arith, omega arith)) (ap (λ m. Some m) is)

as_number-none : (text : Text)
    → (IsNumeral 10 (without_leading_plus text) × (digits_value 10 (without_leading_plus text) < 2 ^ 32) → ⊥) → None ≡ as_number text
as_number-none text none = go (is_unsigned_in 0 greatest text) refl
  where
    go : (b : Bool) → is_unsigned_in 0 greatest text ≡ b → None ≡ cond b (Some (digits_value 10 (without_leading_plus text))) None
    go false e = refl
    go true e =
        let passed = accepts-Accepts false (Unsigned 0 greatest) text e in
        absurd (none (passed.0, omega arith))

-- a number is read of a text, or there is none; why there is none (P, Q) doesn't matter
pub number_of-read : {E : Type 0} (P Q : Text → Result ℕ E → Type 0) (text : Option Text) (read : Option ℕ) → (text ≡ None → read ≡ None)
    → ((t : Text) → text ≡ Some t → ReadsOne (λ bytes r. ParsesUnsigned 32 10 bytes r × P bytes r × Q bytes r) t read) → read ≡ option_and_then as_number text
number_of-read P Q None read none value = none refl
number_of-read P Q (Some t) (Some n) none value =
    let is = (value t refl).0 in
    as_number-some t n is.0.0 is.0.1 is.1
number_of-read P Q (Some t) None none value =
    let is = value t refl in
    as_number-none t is.1.0

-- That a decimal of few places is read as its own nanoseconds.
use Rattle.std.specs.Prelude.{◌≡◌, ℕ, ◌-◌, ◌*◌, ◌^◌, ◌<◌, ◌≤◌, ◌==◌, ℤ, List, [], length, drop, slice_index, Option, Some, option_and_then, if◌then◌else◌}
use Rattle.fast_float.specs.Text.{minus, Parts, scan, digits_of, with_sign}
use Rattle.serde_json.specs.{Data.number, Read.number_of}
use Rattle.span_read.specs.{Nanoseconds, Fields.field_value, Time.time_in}

-- the digits of a number's text, without its sign
abbrev pub parts_of : List ℕ → Parts
parts_of text = scan (if slice_index text 0 == minus then drop 1 text else text)

-- a decimal with at most three digits after the point and no exponent, and with a size below 2^43
pub record IsShortDecimal (text : List ℕ) : Type 0 where
  pub places : length (parts_of text).fraction ≤ 3
  pub no_exponent : (parts_of text).exponent ≡ []
  pub small : digits_of (parts_of text) < 2 ^ 43 * 10 ^ length (parts_of text).fraction

-- the decimal's microseconds as nanoseconds: its digits, and zeros up to three places
abbrev pub own_nanoseconds : List ℕ → ℤ
own_nanoseconds text = with_sign (slice_index text 0 == minus) (digits_of (parts_of text) * 10 ^ (3 - length (parts_of text).fraction))

-- the time in nanoseconds that a text's number is read as, where it is a time
abbrev pub nanoseconds_of_text : List ℕ → Option ℤ
nanoseconds_of_text text = option_and_then (λ n. time_in Nanoseconds (field_value (number n))) (number_of text)

-- a short decimal is read as its own nanoseconds
abbrev pub ShortDecimalsAreExact : Type 0
ShortDecimalsAreExact = (text : List ℕ) → IsShortDecimal text → nanoseconds_of_text text ≡ Some (own_nanoseconds text)

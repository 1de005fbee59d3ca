-- A decimal of at most three places is so near to its float that the nearest whole number of nanoseconds is its own.
use Rattle.std.specs.{Float.float_is_finite, Str.Parse.digits_value}
use Rattle.std.proofs.Common.{◌≡◌, ℕ, zero, suc, ◌+◌, ◌-◌, ◌*◌, ◌/◌, ◌%◌, ◌^◌, ◌≤◌, ◌<◌, ◌==◌, ℤ, Bool, true, false, ◌&&◌, List, [], length, drop, Option, Some, None, nat_lt, nat_le, get_or, option_and_then, if◌then◌else◌, refl, sym, ap, ◌∙◌, subst, arith, rules, tests}
use Rattle.fast_float.specs.Text.{minus, Parts, scan, digits_of, nearest as nearest_float, with_sign}
use Rattle.serde_json.specs.{Data.{Num, number, unsigned, negative, float}, Read.{is_integer, float_of, number_from, number_of}}
use Rattle.fast_float.proofs.ExactLemmas.{ten_to_pos}
use Rattle.span_read.specs.{greatest_time, Nanoseconds, Decimals.{ShortDecimalsAreExact, nanoseconds_of_text, own_nanoseconds, parts_of}, Fields.field_value, Time.{nanoseconds, nanoseconds_of, time_in, within}}
use Rattle.span_read.proofs.Times.{compare-lt, compare-eq, compare-gt, within-sign}
use Prim.Native.Nat.{compare}
use mathlib.Core.Logic.{inl, inr}
use native.Mathlib.Nat.{pow-le-pow_right, eq-zero-or-pos, le_of_eq, lt_of_lt_of_le, lt_of_le_of_lt, mul_right_comm, mul_comm, mul_assoc, mul-one, mul-le-mul_right, mul-le-mul_left, mul-lt-mul_of_pos_right, lt_of_mul-lt-mul_right, div-lt_iff_lt-mul, div-add-mod', mod-lt, mul-pos}
use lib.Arith.{digits_div, digits_mod}
use lib.Dec.{lit<, lit≤}
use lib.Pow.{pow-add, pow_pos, pow_mono}
use lib.Ieee.{Float, nan, inf, fin, binary64, up, down, round, size, nearest}
use lib.Ieee.Digits.{size-le}
use lib.Ieee.Exact.{HasValue, units_val}
use lib.Ieee.Fits.{down_pos, round_is}
use lib.Ieee.Nearest.{closest, closest_same}

-- ---- the nearest whole number is no more than a half off

pub record IsNear (a b q : ℕ) : Type 0 where
  pub above : 2 * (q * b) ≤ 2 * a + b
  pub below : 2 * a ≤ 2 * (q * b) + b

closest-near : (a b : ℕ) → 0 < b → IsNear a b (closest a b)
closest-near a b some =
    let w = a / b in
    let r = a % b in
    let whole : w * b + r ≡ a = div-add-mod' a b in
    let rest : r < b = mod-lt a some in
    elim (eq-zero-or-pos (b - r * 2)) [
      | inr p ↦ subst (λ o. IsNear a b (nearest w o)) (sym (compare-lt (r * 2) b (omega arith))) (record { above = omega arith; below = omega arith })
      | inl z ↦ elim (eq-zero-or-pos (r * 2 - b)) [
        | inl y ↦ subst (λ o. IsNear a b (nearest w o)) (sym (compare-eq (r * 2) b (omega arith))) (even w r whole (omega arith))
        | inr p ↦ subst (λ o. IsNear a b (nearest w o)) (sym (compare-gt (r * 2) b (omega arith))) (up_one w r whole (omega arith) rest)
      ]
    ]
  where
    up_one : (w r : ℕ) → w * b + r ≡ a → b < r * 2 → r < b → IsNear a b (suc w)
    up_one w r whole more less = let next : suc w * b ≡ w * b + b = omega arith in record { above = omega arith; below = omega arith }

    even : (w r : ℕ) → w * b + r ≡ a → r * 2 ≡ b → IsNear a b (w + w % 2)
    even w r whole half = elim (eq-zero-or-pos (w % 2)) [
      | inl z ↦ let same : w + w % 2 ≡ w = omega arith in rw same (record { above = omega arith; below = omega arith })
      | inr p ↦
          let same : w + w % 2 ≡ suc w = omega arith in
          let next : suc w * b ≡ w * b + b = omega arith in
          rw same (record { above = omega arith; below = omega arith })
    ]

module _ (n u q : ℕ) (from : q * u ≤ n) (below : n < q * u + u) where
  at_whole : closest n u ≡ nearest q (compare ((n - q * u) * 2) u)
  at_whole =
      let e : n ≡ q * u + (n - q * u) = omega arith in
      let l : n - q * u < u = omega arith in
      let d : n / u ≡ q = ap (λ x. x / u) e ∙ digits_div q l in
      let m : n % u ≡ n - q * u = ap (λ x. x % u) e ∙ digits_mod q l in
      λ i. nearest (d i) (compare (m i * 2) u)

  closest-below : 2 * n < 2 * (q * u) + u → closest n u ≡ q
  closest-below h = at_whole ∙ ap (nearest q) (compare-lt _ _ (omega arith))

  closest-above : 2 * (q * u) + u < 2 * n → closest n u ≡ suc q
  closest-above h = at_whole ∙ ap (nearest q) (compare-gt _ _ (omega arith))

-- n / u is less than a half off q
closest-is : (n u q : ℕ) → 2 * (q * u) < 2 * n + u → 2 * n < 2 * (q * u) + u → closest n u ≡ q
closest-is n u q lo hi = elim (eq-zero-or-pos (q * u - n)) [
  | inl z ↦ closest-below n u q (omega arith) (omega arith) hi
  | inr p ↦ from_under q (omega arith) lo
]
  where
    from_under : (q : ℕ) → n < q * u → 2 * (q * u) < 2 * n + u → closest n u ≡ q
    from_under zero under h = absurd (omega arith)
    from_under (suc p) under h = let next : suc p * u ≡ p * u + u = omega arith in closest-above n u p (omega arith) (omega arith) (omega arith)

-- ---- the nanoseconds of a float by its value

nanoseconds-value : (x : Float) (s : Bool) (a c : ℕ) → 0 < c → HasValue x s a c → nanoseconds x ≡ Some (with_sign s (closest (1_000 * a) c))
nanoseconds-value nan s a c some value = absurd value
nanoseconds-value (inf t) s a c some value = absurd value
nanoseconds-value (fin t m e) s a c some value =
    let same : closest (1_000 * (m * up e)) (down e) ≡ closest (1_000 * a) c =
    closest_same (1_000 * (m * up e)) (down e) (1_000 * a) c (down_pos e) some
    (mul_assoc 1_000 (m * up e) c ∙ ap (λ k. 1_000 * k) value.1 ∙ sym (mul_assoc 1_000 a (down e))) in
    rw (value.0, same) refl

finite-value : (x : Float) (s : Bool) (a c : ℕ) → HasValue x s a c → float_is_finite x ≡ true
unfolding float_is_finite
finite-value nan s a c value = absurd value
finite-value (inf t) s a c value = absurd value
finite-value (fin t m e) s a c value = refl

-- p / U is near d / c, and so 1000 p / U to the whole number t that 1000 d / c is
nearest-own : (d c t p w U : ℕ) → 0 < c → t * c ≡ 1_000 * d → 2 * (p * c) ≤ 2 * (d * U) + c * w → 2 * (d * U) ≤ 2 * (p * c) + c * w → 1_000 * w < U → closest (1_000 * p) U ≡ t
nearest-own d c t p w U some own above below close =
    let own_units : t * c * U ≡ 1_000 * d * U = ap (λ x. x * U) own in
    let room : 1_000 * w * c < U * c = mul-lt-mul_of_pos_right close some in
    closest-is (1_000 * p) U t
    (lt_of_mul-lt-mul_right c (omega arith))
    (lt_of_mul-lt-mul_right c (omega arith))

-- ---- a float that was rounded from d / c

module _ (s : Bool) (d c : ℕ) (some : 0 < c) (small : d < 2 ^ 43 * c) where
  abbrev n : ℕ
  n = d * 2 ^ 1074

  abbrev j : ℕ
  j = size (n / c) - 53

  abbrev q : ℕ
  q = closest n (c * 2 ^ j)

  few : j ≤ 1064
  few =
      let whole : n < 2 ^ 1117 * c = lt_of_lt_of_le (mul-lt-mul_of_pos_right small (pow_pos 1074)) (le_of_eq (mul_right_comm (2 ^ 43) c (2 ^ 1074) ∙ ap (λ k. k * c) (sym (pow-add 2 43 1074)))) in
      omega (arith, size-le (n / c) 1117 ((div-lt_iff_lt-mul some).1 whole))

  near : IsNear n (c * 2 ^ j) q
  near = closest-near n (c * 2 ^ j) (mul-pos some (pow_pos j))

  steps : 2 ^ j ≤ 2 ^ 1064
  steps = pow_mono few

  in_range : q * 2 ^ j < 2 ^ 2098
  in_range =
      let together : q * 2 ^ j * c ≡ q * (c * 2 ^ j) = mul_assoc q (2 ^ j) c ∙ ap (λ k. q * k) (mul_comm (2 ^ j) c) in
      let whole : d * 2 ^ 1074 < 2 ^ 43 * c * 2 ^ 1074 = mul-lt-mul_of_pos_right small (pow_pos 1074) in
      let powers : 2 ^ 43 * c * 2 ^ 1074 ≡ 2 ^ 1117 * c = mul_right_comm (2 ^ 43) c (2 ^ 1074) ∙ ap (λ k. k * c) (sym (pow-add 2 43 1074)) in
      let step : 2 ^ j * c ≤ 2 ^ 1064 * c = mul-le-mul_right c steps in
      let most : 2 ^ 1118 ≤ 2 ^ 2098 = lit≤ tt in
      let sum : 2 ^ 1117 * c + 2 ^ 1064 * c ≤ 2 ^ 1118 * c = omega arith in
      let below : q * 2 ^ j * c < 2 ^ 1118 * c = omega (arith, near.above) in
      lt_of_lt_of_le (lt_of_mul-lt-mul_right c below) most

  value : HasValue (round binary64 s d c) s (q * 2 ^ j) (2 ^ 1074)
  value = subst (λ x. HasValue x s (q * 2 ^ j) (2 ^ 1074)) (sym (round_is binary64 s d c)) (units_val binary64 s q j in_range)

  pub finite-rounded : float_is_finite (round binary64 s d c) ≡ true
  finite-rounded = finite-value (round binary64 s d c) s (q * 2 ^ j) (2 ^ 1074) value

  pub nanoseconds-rounded : (t : ℕ) → t * c ≡ 1_000 * d → nanoseconds (round binary64 s d c) ≡ Some (with_sign s t)
  nanoseconds-rounded t own =
      let together : q * 2 ^ j * c ≡ q * (c * 2 ^ j) = mul_assoc q (2 ^ j) c ∙ ap (λ k. q * k) (mul_comm (2 ^ j) c) in
      let close : 1_000 * 2 ^ j < 2 ^ 1074 = lt_of_le_of_lt (mul-le-mul_left 1_000 steps) (lit< tt) in
      nanoseconds-value (round binary64 s d c) s (q * 2 ^ j) (2 ^ 1074) (pow_pos 1074) value
      ∙ ap (λ m. Some (with_sign s m)) (nearest-own d c t (q * 2 ^ j) (2 ^ j) (2 ^ 1074) some own (omega (arith, near.above)) (omega (arith, near.below)) close)

-- ---- the numbers of texts

abbrev as_nanoseconds : Option Num → Option ℤ
as_nanoseconds o = option_and_then (λ n. nanoseconds_of (field_value (number n))) o

abbrev as_time : Option Num → Option ℤ
as_time o = option_and_then (λ n. time_in Nanoseconds (field_value (number n))) o

-- nanoseconds in range are a time
as_time-in : (o : Option Num) (s : Bool) (n : ℕ) → n ≤ greatest_time → as_nanoseconds o ≡ Some (with_sign s n) → as_time o ≡ Some (with_sign s n)
as_time-in None s n few is = cc
as_time-in (Some x) s n few is = ap (option_and_then (within greatest_time)) is ∙ within-sign n few s

-- the digits with zeros up to three places
abbrev own : Parts → ℕ
own p = digits_of p * 10 ^ (3 - length p.fraction)

own-is : (p : Parts) → length p.fraction ≤ 3 → own p * 10 ^ length p.fraction ≡ 1_000 * digits_of p
own-is p places =
    let three : 10 ^ (3 - length p.fraction) * 10 ^ length p.fraction ≡ 10 ^ 3 = sym (pow-add 10 (3 - length p.fraction) (length p.fraction)) ∙ ap (λ k. 10 ^ k) {x = 3 - length p.fraction + length p.fraction} {y = 3} (omega (arith, places)) in
    mul_assoc (digits_of p) (10 ^ (3 - length p.fraction)) (10 ^ length p.fraction) ∙ ap (λ k. digits_of p * k) three ∙ mul_comm (digits_of p) 1_000

-- without an exponent the float is rounded from the digits and the places
rounded-from : (s : Bool) (p : Parts) → p.exponent ≡ [] → nearest_float binary64 s p ≡ round binary64 s (digits_of p) (10 ^ length p.fraction)
rounded-from s p none = by p.exponent_negative none
  where
    by : (b : Bool) → p.exponent ≡ [] → round binary64 s (digits_of p * 10 ^ (if b then 0 else digits_value 10 p.exponent)) (10 ^ (length p.fraction + (if b then digits_value 10 p.exponent else 0))) ≡ round binary64 s (digits_of p) (10 ^ length p.fraction)
    by true none = rw none (ap (λ k. round binary64 s k (10 ^ (length p.fraction + 0))) (mul-one (digits_of p)) ∙ ap (λ k. round binary64 s (digits_of p) (10 ^ k)) (omega arith))
    by false none = rw none (ap (λ k. round binary64 s k (10 ^ (length p.fraction + 0))) (mul-one (digits_of p)) ∙ ap (λ k. round binary64 s (digits_of p) (10 ^ k)) (omega arith))

module _ (p : Parts) (places : length p.fraction ≤ 3) (none : p.exponent ≡ []) (small : digits_of p < 2 ^ 43 * 10 ^ length p.fraction) where
  -- a number that is read as a float
  float-own : (s : Bool) → as_nanoseconds (float_of s p) ≡ Some (with_sign s (own p))
  float-own s =
      let rounded = rounded-from s p none in
      let finite : float_is_finite (nearest_float binary64 s p) ≡ true = ap float_is_finite rounded ∙ finite-rounded s (digits_of p) (10 ^ length p.fraction) (ten_to_pos (length p.fraction)) small in
      ap (λ b. as_nanoseconds (if b then Some (float (nearest_float binary64 s p)) else None)) finite
      ∙ ap nanoseconds rounded ∙ nanoseconds-rounded s (digits_of p) (10 ^ length p.fraction) (ten_to_pos (length p.fraction)) small (own p) (own-is p places)

  below : digits_of p < 2 ^ 63
  below =
      let tens : 10 ^ length p.fraction ≤ 10 ^ 3 = pow-le-pow_right (lit< tt) places in
      omega arith

  -- digits without a point, as an integer
  module _ (whole : p.fraction ≡ []) where
    own-whole : own p ≡ 1_000 * digits_of p
    own-whole = ap (λ (l : List ℕ). digits_of p * 10 ^ (3 - length l)) whole ∙ mul_comm (digits_of p) 1_000

    unsigned-own : as_nanoseconds (Some (unsigned (digits_of p))) ≡ Some (with_sign false (own p))
    unsigned-own = let fits = below in rw own-whole (search (rules, tests))

    negative-own : as_nanoseconds (Some (negative (with_sign true (digits_of p)))) ≡ Some (with_sign true (own p))
    negative-own = rw own-whole (search (rules, tests))

  number-own : (s : Bool) → (p.point ≡ false → p.fraction ≡ []) → as_nanoseconds (number_from s p) ≡ Some (with_sign s (own p))
  number-own false pointless = by (is_integer p && nat_lt (digits_of p) (2 ^ 64)) refl
    where
      by : (b : Bool) → (is_integer p && nat_lt (digits_of p) (2 ^ 64)) ≡ b → as_nanoseconds (if b then Some (unsigned (digits_of p)) else float_of false p) ≡ Some (with_sign false (own p))
      by true is = unsigned-own (pointless (grind arith))
      by false is = float-own false
  number-own true pointless = by (is_integer p && nat_lt 0 (digits_of p) && nat_le (digits_of p) (2 ^ 63)) refl
    where
      by : (b : Bool) → (is_integer p && nat_lt 0 (digits_of p) && nat_le (digits_of p) (2 ^ 63)) ≡ b → as_nanoseconds (if b then Some (negative (with_sign true (digits_of p))) else float_of true p) ≡ Some (with_sign true (own p))
      by true is = negative-own (pointless (grind arith))
      by false is = float-own true

  in_time : own p ≤ greatest_time
  in_time =
      let places_of = 10 ^ length p.fraction in
      let less : own p * places_of < 1_000 * 2 ^ 43 * places_of = omega (arith, own-is p places, small) in
      omega (arith, lt_of_mul-lt-mul_right places_of less)

  time-own : (s : Bool) → (p.point ≡ false → p.fraction ≡ []) → as_time (number_from s p) ≡ Some (with_sign s (own p))
  time-own s pointless = as_time-in (number_from s p) s (own p) in_time (number-own s pointless)

-- without a point there is no fraction
pointless : (text : List ℕ) → (scan text).point ≡ false → (scan text).fraction ≡ []
unfolding scan
pointless text none = rw none refl

pub decimals-exact : ShortDecimalsAreExact
unfolding number_of
decimals-exact text is = by (get_or text 0 0 == minus) refl is.places is.no_exponent is.small
  where
    by : (b : Bool) → (get_or text 0 0 == minus) ≡ b → length (parts_of text).fraction ≤ 3 → (parts_of text).exponent ≡ [] → digits_of (parts_of text) < 2 ^ 43 * 10 ^ length (parts_of text).fraction → nanoseconds_of_text text ≡ Some (own_nanoseconds text)
    by true minus_is places none small = rw minus_is (time-own (scan (drop 1 text)) (rw minus_is at places) (rw minus_is at none) (rw minus_is at small) true (pointless (drop 1 text)))
    by false minus_is places none small = rw minus_is (time-own (scan text) (rw minus_is at places) (rw minus_is at none) (rw minus_is at small) false (pointless text))

-- A float of microseconds as nanoseconds: by its bit pattern, and by a shift that rounds.
use Rattle.std.specs.Float.{float_is_finite, is_sign_negative, MulAdd.units_of_bits}
use Rattle.std.proofs.{Common.{◌≡◌, ℕ, zero, suc, ◌+◌, ◌-◌, ◌*◌, ◌/◌, ◌%◌, ◌^◌, ◌≤◌, ◌<◌, ◌≤ℤ◌, ℤ, pos, neg_ℤ, Bool, true, false, Some, None, option_and_then, refl, sym, ap, ◌∙◌, arith, rules, tests}, lemmas.Int.ints}
use Rattle.fast_float.specs.Text.{with_sign}
use Rattle.span_read.specs.{greatest_time, Time.{nanoseconds, within}}
use Rattle.span_read.proofs.FloatBits.{size_in_units, units_of_bits-low, units_of_bits-high}
use Prim.Native.Nat.compare
use Prim.Native.Nat.{compare, Ordering}
use mathlib.Core.Logic.{inl, inr}
use native.Mathlib.Nat.{eq-zero-or-pos, le_of_eq, le_trans, lt_of_lt_of_le, lt_of_le_of_lt, mul_right_comm, mul_comm, mul_assoc, mul-one, one-mul, mul-le-mul_right, le-add_right}
use lib.Dec.{T, lit<, lit≤}
use lib.Pow.{pow-add, pow_pos, pow_mono, shl_lt, shl_exact}
use lib.Bits.{bit_and, and_mask}
use lib.Ieee.{Float, nan, inf, fin, binary64, fits, to_bits}
use lib.Ieee.Nearest.{closest, closest_same, closest_mono}
use lib.Ieee.Positive.{num, den, den_pos}

-- ---- `1 << s` and the mask under it, at a `u64`

pub unit_is : (s : ℕ) → s < 64 → 1 * 2 ^ s % 2 ^ 64 ≡ 2 ^ s
unit_is s h = shl_exact {a = 1} 1 s 64 (lit< tt) (omega arith) ∙ one-mul (2 ^ s)

pub masked : (n s : ℕ) → s < 64 → bit_and n (1 * 2 ^ s % 2 ^ 64 - 1) ≡ n % 2 ^ s
masked n s h = ap (λ (u : ℕ). bit_and n (u - 1)) (unit_is s h) ∙ and_mask n s

-- ---- how two numbers compare

pub compare-lt : (a b : ℕ) → a < b → compare a b ≡ Ordering.lt
compare-lt zero (suc b) h = compare.zero-suc b
compare-lt (suc a) (suc b) h = compare.suc-suc a b ∙ compare-lt a b (omega arith)
compare-lt a zero h = absurd (omega arith)

pub compare-eq : (a b : ℕ) → a ≡ b → compare a b ≡ Ordering.eq
compare-eq zero zero h = compare.zero-zero
compare-eq (suc a) (suc b) h = compare.suc-suc a b ∙ compare-eq a b (omega arith)
compare-eq zero (suc b) h = absurd (omega arith)
compare-eq (suc a) zero h = absurd (omega arith)

pub compare-gt : (a b : ℕ) → b < a → compare a b ≡ Ordering.gt
compare-gt (suc a) zero h = compare.suc-zero a
compare-gt (suc a) (suc b) h = compare.suc-suc a b ∙ compare-gt a b (omega arith)
compare-gt zero b h = absurd (omega arith)

-- ---- a finite float by its digits and its exponent

module _ (x : Float) (holds : T (fits binary64 x)) (finite : float_is_finite x ≡ true) where
  abbrev b : ℕ
  b = to_bits binary64 x % 2 ^ 63

  -- the exponent and the digits, as they stand in the bits
  abbrev e : ℕ
  e = b / 2 ^ 52

  abbrev q : ℕ
  q = 2 ^ 52 + b % 2 ^ 52

  abbrev u : ℕ
  u = units_of_bits b

  by_units : closest (1_000 * num x) (den x) ≡ closest (u * 1_000) (2 ^ 1074)
  by_units = closest_same (1_000 * num x) (den x) (u * 1_000) (2 ^ 1074) (den_pos x) (pow_pos 1074)
      (ap (λ (k : ℕ). k * 2 ^ 1074) (mul_comm 1_000 (num x)) ∙ mul_right_comm (num x) 1_000 (2 ^ 1074) ∙ ap (λ (k : ℕ). k * 1_000) (size_in_units x holds finite) ∙ mul_right_comm u (den x) 1_000)

  digits : q < 2 ^ 53
  digits = omega arith

  low : 0 < 2 ^ 52 - b → b < 2 ^ 52
  low p = omega arith

  few : e < 1012 → u < 2 ^ 1063
  few h = elim (eq-zero-or-pos (2 ^ 52 - b)) [
    | inl z ↦ lt_of_le_of_lt (le_of_eq (units_of_bits-high b (omega arith))) (lt_of_lt_of_le (shl_lt 53 (e - 1) digits) (pow_mono {i = 53 + (e - 1)} {j = 1063} (omega arith)))
    | inr p ↦ let l : b < 2 ^ 52 = low p in lt_of_le_of_lt (le_of_eq (units_of_bits-low b l)) (lt_of_lt_of_le l (lit≤ tt))
  ]

  pub tiny : e < 1012 → closest (1_000 * num x) (den x) ≡ 0
  tiny h =
      let small : u ≤ 2 ^ 1063 - 1 = omega (arith, few h) in
      let less : u * 1_000 * 2 ^ 1074 ≤ (2 ^ 1063 - 1) * 1_000 * 2 ^ 1074 = mul-le-mul_right (2 ^ 1074) (mul-le-mul_right 1_000 small) in
      let none : closest ((2 ^ 1063 - 1) * 1_000) (2 ^ 1074) ≡ 0 = refl in
      by_units ∙ omega (arith, closest_mono (u * 1_000) (2 ^ 1074) ((2 ^ 1063 - 1) * 1_000) (2 ^ 1074) (pow_pos 1074) (pow_pos 1074) less, none)

  pub shifted : 0 < e → e ≤ 1075 → closest (1_000 * q) (2 ^ (1075 - e)) ≡ closest (1_000 * num x) (den x)
  shifted lo hi =
      let p : 2 ^ 1074 ≡ 2 ^ (e - 1) * 2 ^ (1075 - e) = ap (λ (i : ℕ). 2 ^ i) {x = 1074} {y = e - 1 + (1075 - e)} (omega arith) ∙ pow-add 2 (e - 1) (1075 - e) in
      ap (λ (k : ℕ). closest k (2 ^ (1075 - e))) (mul_comm 1_000 q)
      ∙ closest_same (q * 1_000) (2 ^ (1075 - e)) (u * 1_000) (2 ^ 1074) (pow_pos (1075 - e)) (pow_pos 1074)
      (ap (λ (i : ℕ). q * 1_000 * i) p ∙ sym (mul_assoc (q * 1_000) (2 ^ (e - 1)) (2 ^ (1075 - e)))
      ∙ ap (λ (i : ℕ). i * 2 ^ (1075 - e)) (mul_right_comm q 1_000 (2 ^ (e - 1)) ∙ ap (λ (i : ℕ). i * 1_000) (sym (units_of_bits-high b (omega arith)))))
      ∙ sym by_units

  many : 1075 < e → 2 ^ 1127 ≤ u
  many h = le_trans (pow_mono {i = 1127} {j = 52 + (e - 1)} (omega arith)) (le_trans (le_of_eq (pow-add 2 52 (e - 1)))
      (le_trans (mul-le-mul_right (2 ^ (e - 1)) (le-add_right (2 ^ 52) (b % 2 ^ 52))) (le_of_eq (sym (units_of_bits-high b (omega arith))))))

  pub huge : 1075 < e → greatest_time < closest (1_000 * num x) (den x)
  huge h =
      let most : 2 ^ 62 * 2 ^ 1074 ≤ 2 ^ 1127 * 1_000 = lit≤ tt in
      let room : 2 ^ 62 * 2 ^ 1074 ≤ u * 1_000 * 1 = le_trans most (le_trans (mul-le-mul_right 1_000 (many h)) (le_of_eq (sym (mul-one (u * 1_000))))) in
      let above = closest_mono (2 ^ 62) 1 (u * 1_000) (2 ^ 1074) (lit< tt) (pow_pos 1074) room in
      let whole : closest (2 ^ 62) 1 ≡ 2 ^ 62 = refl in
      lt_of_lt_of_le (lit< tt) (le_trans (le_of_eq (sym whole)) (le_trans above (le_of_eq (sym by_units))))

-- ---- in range

within-in : (greatest : ℕ) (z : ℤ) → neg_ℤ (pos greatest) ≤ℤ z → z ≤ℤ pos greatest → within greatest z ≡ Some z
within-in greatest z from to = search (rules, tests)

-- a size in range, with either sign
pub within-sign : (n : ℕ) → n ≤ greatest_time → (negative : Bool) → within greatest_time (with_sign negative n) ≡ Some (with_sign negative n)
within-sign n small true = within-in greatest_time (neg_ℤ (pos n)) (omega (arith, ints)) (omega (arith, ints))
within-sign n small false = within-in greatest_time (pos n) (omega (arith, ints)) (omega (arith, ints))

pub nanoseconds-none : (x : Float) → float_is_finite x ≡ false → option_and_then (within greatest_time) (nanoseconds x) ≡ None
unfolding float_is_finite
nanoseconds-none nan infinite = refl
nanoseconds-none (inf s) infinite = refl
nanoseconds-none (fin s m e) infinite = absurd (cc)

pub nanoseconds-in : (x : Float) (n : ℕ) → float_is_finite x ≡ true → n ≡ closest (1_000 * num x) (den x) → n ≤ greatest_time → option_and_then (within greatest_time) (nanoseconds x) ≡ Some (with_sign (is_sign_negative x) n)
unfolding float_is_finite is_sign_negative
nanoseconds-in nan n finite is small = absurd (cc)
nanoseconds-in (inf s) n finite is small = absurd (cc)
nanoseconds-in (fin s m e) n finite is small = rw (← is) (within-sign n small s)

-- The value of a finite float by its bit pattern, in units of 2 ^ -1074.
use Rattle.std.specs.Float.{float_is_finite, MulAdd.units_of_bits}
use Rattle.std.proofs.Common.{◌≡◌, ℕ, zero, suc, ◌+◌, ◌-◌, ◌*◌, ◌/◌, ◌%◌, ◌^◌, ◌≤◌, ◌<◌, ℤ, Bool, true, false, cond, refl, sym, ap, ◌∙◌, subst, arith}
use mathlib.Core.Bool.{not}
use native.Mathlib.Nat.{lt_of_not-le}
use borrow.Author.Tests.{lt-ltb, le-ltb, ne_eqb}
use lib.Dec.{T, leb, eqb}
use lib.Ieee.{Float, nan, inf, fin, binary64, odd, fits, is_nan, of_bits, of_fields, to_bits}
use lib.Ieee.Bits.{of_bits-to_bits}
use lib.Ieee.Exact.{HasValue, odd_sign}
use lib.Ieee.Positive.{num, den}

pub units_of_bits-low : (b : ℕ) → b < 2 ^ 52 → units_of_bits b ≡ b
unfolding units_of_bits
units_of_bits-low b h = rw (lt-ltb b (2 ^ 52) h) refl

pub units_of_bits-high : (b : ℕ) → 2 ^ 52 ≤ b → units_of_bits b ≡ (2 ^ 52 + b % 2 ^ 52) * 2 ^ (b / 2 ^ 52 - 1)
unfolding units_of_bits
units_of_bits-high b h = rw (le-ltb b (2 ^ 52) h) refl

fields : (s : Bool) (x t b : ℕ) → x < 2047 → t < 2 ^ 52 → b ≡ x * 2 ^ 52 + t → HasValue (of_fields binary64 s x t) s (units_of_bits b) (2 ^ 1074)
unfolding of_fields
fields s zero t b X H e =
    let v : t * 2 ^ 0 ≡ units_of_bits b = omega (arith, units_of_bits-low b (omega arith)) in
    subst (λ (a : ℕ). HasValue (odd 53 s t 0 1074) s a (2 ^ 1074)) v (odd_sign 53 s t 0 1074)
fields s (suc j) t b X H e =
    let p : t ≡ b % 2 ^ 52 = omega arith in
    let q : j ≡ b / 2 ^ 52 - 1 = omega arith in
    let v : (2 ^ 52 + t) * 2 ^ j ≡ units_of_bits b = (λ i. (2 ^ 52 + p i) * 2 ^ q i) ∙ sym (units_of_bits-high b (omega arith)) in
    subst (λ (k : Bool). HasValue (cond k (cond (eqb t 0) (inf s) nan) (odd 53 s (2 ^ 52 + t) j 1074)) s (units_of_bits b) (2 ^ 1074)) (sym (ne_eqb (suc j) 2047 (omega arith)))
    (subst (λ (a : ℕ). HasValue (odd 53 s (2 ^ 52 + t) j 1074) s a (2 ^ 1074)) v (odd_sign 53 s (2 ^ 52 + t) j 1074))

read : (b : ℕ) → b % 2 ^ 63 < 2047 * 2 ^ 52 → HasValue (of_bits binary64 b) (leb (2 ^ 63) b) (units_of_bits (b % 2 ^ 63)) (2 ^ 1074)
unfolding of_bits
read b h = fields (leb (2 ^ 63) b) (b % 2 ^ 63 / 2 ^ 52) (b % 2 ^ 52) (b % 2 ^ 63) (omega arith) (omega arith) (omega arith)

-- an exponent of all ones is no finite float's
not_finite : (b : ℕ) (s : Bool) (m : ℕ) (e : ℤ) → 2047 * 2 ^ 52 ≤ b % 2 ^ 63 → of_bits binary64 b ≡ fin s m e → ⊥
unfolding of_bits
not_finite b s m e h p =
    let x : b % 2 ^ 63 / 2 ^ 52 ≡ 2047 = omega arith in
    go (eqb (b % 2 ^ 52) 0) (ap (λ (k : ℕ). of_fields binary64 (leb (2 ^ 63) b) k (b % 2 ^ 52)) (sym x) ∙ p)
  where
    go : (t : Bool) → cond t (inf (leb (2 ^ 63) b)) nan ≡ fin s m e → ⊥
    go true q = let z : ◌≡◌ {A = ℕ} 0 1 = cc in omega arith
    go false q = let z : ◌≡◌ {A = ℕ} 0 1 = cc in omega arith

pub not_nan : (x : Float) → float_is_finite x ≡ true → T (not (is_nan x))
unfolding float_is_finite is_nan
not_nan nan finite = absurd (cc)
not_nan (inf s) finite = tt
not_nan (fin s m e) finite = tt

-- the size of a finite float
pub size_in_units : (x : Float) → T (fits binary64 x) → float_is_finite x ≡ true → num x * 2 ^ 1074 ≡ units_of_bits (to_bits binary64 x % 2 ^ 63) * den x
unfolding float_is_finite
size_in_units nan holds finite = absurd (cc)
size_in_units (inf s) holds finite = absurd (cc)
size_in_units (fin s m e) holds finite =
    let b = to_bits binary64 (fin s m e) in
    let back = of_bits-to_bits binary64 (fin s m e) holds in
    let below : b % 2 ^ 63 < 2047 * 2 ^ 52 = lt_of_not-le (λ (g : 2047 * 2 ^ 52 ≤ b % 2 ^ 63). not_finite b s m e g back) in
    (subst (λ (y : Float). HasValue y (leb (2 ^ 63) b) (units_of_bits (b % 2 ^ 63)) (2 ^ 1074)) back (read b below)).1

-- The order of keys is total, and keys that it does not distinguish are the same.
use Rattle.std.specs.{Cmp.{IsTotalOrder, Lexicographic.{lists_total, options_total}}, FinMap.int_cmp-IsAntisymmetric, Option.option_cmp, Ordering.{eq_by_cmp, is_eq}, Prelude.{◌≡◌, true, false, [], ◌∷◌, Some, None, refl}, declared.cmp.Ordering.{Ordering, TheVariants.{Less, Equal, Greater}}}
use Rattle.std.proofs.Common.{ap, ap₂}
use Rattle.span_event.proofs.Orders.{both_equal, text_same}
use Rattle.span_table.specs.{ArgValue, Nil, Flag, Whole, Words, Other, value_cmp, value_cmp_total, Columns.Value, Keys.{TableKey, key_cmp}}

-- the order of keys is total
pub key_cmp_total : IsTotalOrder key_cmp
key_cmp_total = lists_total (options_total value_cmp_total)

value_cmp-same : (a b : ArgValue) → value_cmp a b ≡ Equal → a ≡ b
value_cmp-same Nil Nil e = refl
value_cmp-same (Flag true) (Flag true) e = refl
value_cmp-same (Flag false) (Flag false) e = refl
value_cmp-same (Whole a) (Whole b) e = ap Whole (int_cmp-IsAntisymmetric a b (both_equal _ Equal e).0)
value_cmp-same (Words a) (Words b) e = ap Words (text_same a b e)
value_cmp-same Other Other e = refl
value_cmp-same a b e = cc

option_cmp-same : (a b : Value) → option_cmp value_cmp a b ≡ Equal → a ≡ b
option_cmp-same None None e = refl
option_cmp-same None (Some b) e = cc
option_cmp-same (Some a) None e = cc
option_cmp-same (Some a) (Some b) e = ap Some (value_cmp-same a b e)

-- keys that the order does not distinguish are the same
pub key_cmp-same : (a b : TableKey) → key_cmp a b ≡ Equal → a ≡ b
key_cmp-same [] [] e = refl
key_cmp-same [] (y ∷ ys) e = cc
key_cmp-same (x ∷ xs) [] e = cc
key_cmp-same (x ∷ xs) (y ∷ ys) e = let both = both_equal (option_cmp value_cmp x y) (key_cmp xs ys) e in ap₂ (λ v l. v ∷ l) (option_cmp-same x y both.0) (key_cmp-same xs ys both.1)

-- what holds of one of two equal keys holds of the other
pub key_eq-same : (a b : TableKey) → eq_by_cmp key_cmp a b ≡ true → a ≡ b
key_eq-same a b h = by (key_cmp a b) refl h
  where
    by : (r : Ordering) → key_cmp a b ≡ r → is_eq r ≡ true → a ≡ b
    by Less e h = cc
    by Equal e h = key_cmp-same a b e
    by Greater e h = cc

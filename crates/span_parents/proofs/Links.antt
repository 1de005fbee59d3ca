-- That the way back over links passes no span that reaches the one from which it starts.
use Rattle.std.specs.{Cmp.IsTotalOrder, List.Sorted.IsStrictlySortedBy, Ordering.ordering_reverse, declared.cmp.Ordering.{TheVariants.{Less, Equal, Greater}}}
use Rattle.std.proofs.{Common.{◌≡◌, ℕ, ◌<◌, inl, inr, Bool, true, false, ◌&&◌, ℤ, int_le, List, Option, Some, None, length, refl, sym, ap, ◌∙◌, subst, arith, true≢false}, lemmas.{Bool.{and_parts, cases_order}, Cmp.{nat_list_cmp_total, tied_itself}, Int.ints, Slice.Eq.bytes_eq-Decides}}
use Rattle.span_event.proofs.Orders.{text_same}
use Rattle.span_parents.specs.{Bytes, same_text, text_cmp, outranks, Nearest.{ArePassed, IsLink, Placed, in_order_at, placed_order, reaches}}
use Rattle.span_parents.proofs.Order.{Less-before, outranks-later, same_name, then_less}

-- of two spans of a name, the later one ranks above
pub outranks-of_name : (a b : Placed) → placed_order a b ≡ Less → a.span.name ≡ b.span.name → outranks b.span a.span ≡ true
outranks-of_name a b less same =
    elim (then_less (text_cmp a.span.name b.span.name) _ less) [
      | inl apart ↦
          let equal : text_cmp a.span.name b.span.name ≡ Equal = subst (λ name. text_cmp a.span.name name ≡ Equal) same (tied_itself nat_list_cmp_total a.span.name) in
          absurd cc
      | inr rest ↦ outranks-later a.span b.span rest.1
    ]

-- spans of one name stand together
name_between : (a b c : Placed) → placed_order a b ≡ Less → placed_order b c ≡ Less → a.span.name ≡ c.span.name → a.span.name ≡ b.span.name
name_between a b c before behind same =
    elim (then_less (text_cmp a.span.name b.span.name) _ before) [
      | inl less ↦
          let back : text_cmp b.span.name a.span.name ≡ Greater = IsTotalOrder.antisymm nat_list_cmp_total b.span.name a.span.name ∙ ap ordering_reverse less in
          let greater : text_cmp b.span.name c.span.name ≡ Greater = subst (λ name. text_cmp b.span.name name ≡ Greater) same back in
          elim (then_less (text_cmp b.span.name c.span.name) _ behind) [
            | inl l ↦ absurd cc
            | inr e ↦ let equal = e.0 in absurd cc
          ]
      | inr tied ↦ text_same a.span.name b.span.name tied.0
    ]

-- a test that fails though its first part passes fails by the second
and_fails : (x y : Bool) → x ≡ true → (x && y) ≡ false → y ≡ false
and_fails true y passes fails = fails
and_fails false y passes fails = absurd (true≢false (sym passes))

same_from : (a b : Bytes) → a ≡ b → same_text a b ≡ true
same_from a b same = (bytes_eq-Decides a b).1 same

ends_apart : (a b c : ℤ) → int_le b a ≡ false → int_le c b ≡ false → int_le c a ≡ false
ends_apart a b c first second = grind (arith, ints)

-- what doesn't reach one behind it doesn't reach any that this one doesn't reach
reaches-over : (a b c : Placed) → placed_order a b ≡ Less → placed_order b c ≡ Less → reaches a b ≡ false → reaches b c ≡ false → reaches a c ≡ false
reaches-over a b c before behind first second = by (reaches a c) refl
  where
    by : (r : Bool) → reaches a c ≡ r → r ≡ false
    by false is = refl
    by true is =
        let parts = and_parts (same_text a.span.name c.span.name) (int_le c.span.until a.span.until) is in
        let ends = same_name a.span.name c.span.name parts.0 in
        let one = name_between a b c before behind ends in
        let two : b.span.name ≡ c.span.name = sym one ∙ ends in
        let sooner = and_fails _ _ (same_from a.span.name b.span.name one) first in
        let later = and_fails _ _ (same_from b.span.name c.span.name two) second in
        absurd (true≢false (sym parts.1 ∙ ends_apart a.span.until b.span.until c.span.until sooner later))

module _ (ordered : List Placed) (i k : ℕ) (order : IsStrictlySortedBy placed_order ordered) (within : i < length ordered)
    (passed : ArePassed ordered i (Some k)) (short : reaches (in_order_at ordered k) (in_order_at ordered i) ≡ false) where
  -- what doesn't reach the k-th doesn't reach the i-th
  over : (j : ℕ) → j < k → reaches (in_order_at ordered j) (in_order_at ordered k) ≡ false → reaches (in_order_at ordered j) (in_order_at ordered i) ≡ false
  over j before fails =
      reaches-over (in_order_at ordered j) (in_order_at ordered k) (in_order_at ordered i) (Less-before ordered order j k before (omega (arith, passed.0)))
      (Less-before ordered order k i passed.0 within) fails short

  -- so nor does any that stands behind
  each : (j : ℕ) → j < i → (j < k → reaches (in_order_at ordered j) (in_order_at ordered k) ≡ false) → reaches (in_order_at ordered j) (in_order_at ordered i) ≡ false
  each j before fails =
      elim (cases_order j k) [
        | inl same ↦ rw same short
        | inr (inl less) ↦ over j less (fails less)
        | inr (inr more) ↦ passed.1 j more before
      ]

  pub ArePassed-on : (link : Option ℕ) → IsLink ordered k link → ArePassed ordered i link
  ArePassed-on None is = λ j before. each j before (is.passed j)
  ArePassed-on (Some m) is = (omega (arith, passed.0, is.passed.0), λ j behind before. each j before (is.passed.1 j behind))

-- The order of stacks that begin alike.
use Rattle.std.specs.{Cmp.IsTotalOrder, Ordering.{ordering_reverse, ordering_then}, declared.cmp.Ordering.{Ordering, TheVariants.{Less, Equal, Greater}}}
use Rattle.std.proofs.{Common.{◌≡◌, [], ◌∷◌, ◌++◌, refl, sym, ap, ap₂, ◌∙◌}, lemmas.Cmp.{nat_list_cmp_total, tied_itself}}
use Rattle.span_report.specs.{Bytes, text_cmp, Stacks.Ticks.{Stack, stack_order}}

module _ {K : Type 0} {R : K → K → Ordering} (o : IsTotalOrder R) where
  -- nothing is below itself
  pub irreflexive : (a : K) → R a a ≡ Less → ⊥
  irreflexive a less = let both : Equal ≡ Less = sym (tied_itself o a) ∙ less in absurd cc

  -- what is above has the other below
  pub turned-greater : (a b : K) → R a b ≡ Greater → R b a ≡ Less
  turned-greater a b greater = o.antisymm b a ∙ ap ordering_reverse greater

  -- what is below has the other above
  pub turned-less : (a b : K) → R a b ≡ Less → R b a ≡ Greater
  turned-less a b less = o.antisymm b a ∙ ap ordering_reverse less

-- the empty stack is the least
pub none-below-empty : (stack : Stack) → stack_order stack [] ≡ Less → ⊥
none-below-empty [] below = absurd cc
none-below-empty (frame ∷ frames) below = absurd cc

-- a stack is below those that it begins
pub below-pushed : (stack : Stack) (name : Bytes) → stack_order stack (stack ++ name ∷ []) ≡ Less
below-pushed [] name = refl
below-pushed (frame ∷ frames) name = ap₂ ordering_then (tied_itself nat_list_cmp_total frame) (below-pushed frames name)

-- stacks that differ in their last frames have the order of these
pub stack_order-pushed : (stack : Stack) (a b : Bytes) → stack_order (stack ++ a ∷ []) (stack ++ b ∷ []) ≡ text_cmp a b
stack_order-pushed [] a b = by (text_cmp a b)
  where
    by : (r : Ordering) → ordering_then r Equal ≡ r
    by Less = refl
    by Equal = refl
    by Greater = refl
stack_order-pushed (frame ∷ frames) a b = ap₂ ordering_then (tied_itself nat_list_cmp_total frame) (stack_order-pushed frames a b)

-- The program compares the values of arguments by their order.
use Rattle.std.specs.{Ordering.{bool_cmp, int_cmp, ordering_then}, declared.cmp.Ordering.{Ordering, TheVariants.{Less, Equal, Greater}}}
use Rattle.std.proofs.Common.{◌≡◌, refl, sym}
use Rattle.span_event.specs.{Orders.value_cmp, declared.args.ArgValue.{ArgValue, TheVariants.{Nil, Flag, Whole, Words, Other}}}
use Rattle.span_event.specs.contracts.args.ArgValueOrd.TheImpl as derived

ordering_then-Equal : (r : Ordering) → ordering_then r Equal ≡ r
ordering_then-Equal Less = refl
ordering_then-Equal Equal = refl
ordering_then-Equal Greater = refl

pub value_cmp-is : (a b : ArgValue) → (derived.ghosts).cmp a b ≡ value_cmp a b
value_cmp-is Nil Nil = refl
value_cmp-is Nil (Flag b) = refl
value_cmp-is Nil (Whole b) = refl
value_cmp-is Nil (Words b) = refl
value_cmp-is Nil Other = refl
value_cmp-is (Flag a) Nil = refl
value_cmp-is (Flag a) (Flag b) = sym (ordering_then-Equal (bool_cmp a b))
value_cmp-is (Flag a) (Whole b) = refl
value_cmp-is (Flag a) (Words b) = refl
value_cmp-is (Flag a) Other = refl
value_cmp-is (Whole a) Nil = refl
value_cmp-is (Whole a) (Flag b) = refl
value_cmp-is (Whole a) (Whole b) = sym (ordering_then-Equal (int_cmp a b))
value_cmp-is (Whole a) (Words b) = refl
value_cmp-is (Whole a) Other = refl
value_cmp-is (Words a) Nil = refl
value_cmp-is (Words a) (Flag b) = refl
value_cmp-is (Words a) (Whole b) = refl
value_cmp-is (Words a) (Words b) = refl
value_cmp-is (Words a) Other = refl
value_cmp-is Other Nil = refl
value_cmp-is Other (Flag b) = refl
value_cmp-is Other (Whole b) = refl
value_cmp-is Other (Words b) = refl
value_cmp-is Other Other = refl

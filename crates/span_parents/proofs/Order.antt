-- That the order by name and rank is total, and strict among the spans of a thread.
use Rattle.std.specs.{Cmp.IsTotalOrder, List.{AllByRecursion, IsDistinct, Sorted.IsStrictlySortedBy}, Ordering.{eq_by_cmp, int_cmp, is_eq, nat_cmp, ordering_then}, declared.cmp.Ordering.{Ordering, TheVariants.{Less, Equal, Greater}}}
use Rattle.std.proofs.{Common.{◌≡◌, ◌≢◌, ℕ, zero, suc, ◌+◌, ◌<◌, ◌⊎◌, inl, inr, true, false, List, [], ◌∷◌, ◌++◌, get_or, length, take, refl, ap, sym, ◌∙◌, arith}, lemmas.{Bool.Decides.nat_tests, Cmp.{back_total, int_cmp_total, nat_cmp_total, nat_list_cmp_total, on_total, then_total}, Int.ints, List.{Elements.All-from_recursion, length-map, length-take-le, map_more}, Slice.Eq.bytes_eq-Decides}}
use Rattle.span_parents.specs.{Bytes, same_text, text_cmp, AreSpans, IsApart, Span, Timed, outranks, Holding.spans_of, Nearest.{Placed, in_order_at, nowhere, placed, placed_from, placed_order}, declared.nearest.Among.Among}

pub placed_order-total : IsTotalOrder placed_order
placed_order-total =
    then_total (on_total (λ (p : Placed). p.span.name) nat_list_cmp_total)
    (then_total (on_total (λ (p : Placed). p.span.start) int_cmp_total)
    (then_total (on_total (λ (p : Placed). p.span.until) (back_total int_cmp_total)) (on_total (λ (p : Placed). p.span.at) nat_cmp_total)))

-- what the second of two orders tells apart
then_apart : (first second : Ordering) → is_eq second ≡ false → is_eq (ordering_then first second) ≡ false
then_apart Less second apart = refl
then_apart Equal second apart = apart
then_apart Greater second apart = refl

eq_by_cmp-apart : (a b : Placed) → a.span.at ≢ b.span.at → eq_by_cmp placed_order a b ≡ false
eq_by_cmp-apart a b apart =
    let last : is_eq (nat_cmp a.span.at b.span.at) ≡ false = grind (arith, nat_tests) in
    then_apart (text_cmp a.span.name b.span.name) _ (then_apart (int_cmp a.span.start b.span.start) _ (then_apart (int_cmp b.span.until a.span.until) _ last))

apart_from : (among : Among) (s : Span Bytes) (place n : ℕ) (others : List (Span Bytes)) → IsApart s.at others
    → AllByRecursion (λ x. eq_by_cmp placed_order (placed among s place) x ≡ false) (placed_from among n others)
apart_from among s place n [] apart = tt
apart_from among s place n (x ∷ others) apart =
    (eq_by_cmp-apart (placed among s place) (placed among x n) (λ same. apart.0 (sym same)), apart_from among s place (suc n) others apart.1)

pub IsDistinct-placed_from : (among : Among) (n : ℕ) (spans : List (Span Bytes)) → AreSpans spans → IsDistinct (eq_by_cmp placed_order) (placed_from among n spans)
unfolding IsDistinct
IsDistinct-placed_from among n [] are = tt
IsDistinct-placed_from among n (s ∷ spans) are = (apart_from among s n (suc n) spans are.1, IsDistinct-placed_from among (suc n) spans are.2)

-- one span more
placed_from-push : (among : Among) (n : ℕ) (spans : List (Span Bytes)) (s : Span Bytes) → placed_from among n (spans ++ s ∷ []) ≡ placed_from among n spans ++ placed among s (n + length spans) ∷ []
placed_from-push among n [] s = ap (λ k. placed among s k ∷ []) (omega arith)
placed_from-push among n (x ∷ spans) s =
    ap (λ rest. placed among x n ∷ rest) (placed_from-push among (suc n) spans s ∙ ap (λ k. placed_from among (suc n) spans ++ placed among s k ∷ []) (omega arith))

pub placed_from-more : (among : Among) (timed : List Timed) (i : ℕ) (d : Timed) → i < length timed → placed_from among 0 (spans_of (take (i + 1) timed)) ≡ placed_from among 0 (spans_of (take i timed)) ++ placed among (get_or timed i d).span i ∷ []
placed_from-more among timed i d within =
    let count : length (spans_of (take i timed)) ≡ i = length-map (take i timed) (λ (t : Timed). t.span) ∙ length-take-le i timed (omega arith) in
    ap (placed_from among 0) (map_more (λ (t : Timed). t.span) timed i d within) ∙ placed_from-push among 0 (spans_of (take i timed)) (get_or timed i d).span
    ∙ ap (λ k. placed_from among 0 (spans_of (take i timed)) ++ placed among (get_or timed i d).span k ∷ []) (omega (arith, count))

pub Less-before : (ordered : List Placed) → IsStrictlySortedBy placed_order ordered → (j k : ℕ) → j < k → k < length ordered → placed_order (in_order_at ordered j) (in_order_at ordered k) ≡ Less
unfolding IsStrictlySortedBy
Less-before [] order j k before within = absurd (omega arith)
Less-before (p ∷ ordered) order j zero before within = absurd (omega arith)
Less-before (p ∷ ordered) order zero (suc k) before within = All-from_recursion (λ y. placed_order p y ≡ Less) ordered order.0 k nowhere (omega arith)
Less-before (p ∷ ordered) order (suc j) (suc k) before within = Less-before ordered order.1 j k (omega arith) (omega arith)

pub same_name : (a b : Bytes) → same_text a b ≡ true → a ≡ b
same_name a b same = (bytes_eq-Decides a b).0 same

-- the two orders of which the first decides, if it can
pub then_less : (first second : Ordering) → ordering_then first second ≡ Less → (first ≡ Less) ⊎ ((first ≡ Equal) × (second ≡ Less))
then_less Less second less = inl refl
then_less Equal second less = inr (refl, less)
then_less Greater second less = absurd cc

pub outranks-later : (a b : Span Bytes) → ordering_then (int_cmp a.start b.start) (ordering_then (int_cmp b.until a.until) (nat_cmp a.at b.at)) ≡ Less → outranks b a ≡ true
outranks-later a b less = grind (arith, ints, nat_tests)

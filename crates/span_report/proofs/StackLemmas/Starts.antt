-- Ranked spans start one after the other, and all lie within the times that a thread can have seen.
use Rattle.std.specs.{List.{AllByRecursion, Sorted.IsStrictlySortedBy}, declared.cmp.Ordering.TheVariants.Less}
use Rattle.std.proofs.{Common.{◌≡◌, ℕ, zero, suc, ◌<◌, ◌≤ℤ◌, All, List, [], ◌∷◌, length, get_or, arith, inl, inr}, lemmas.{Int.{clamps, ints}, List.Elements.{All-head, All-tail}}}
use Rattle.span_self_time.proofs.Ranks.{Decides-outranks, IsAbove}
use Rattle.span_report.specs.{least_time, Bytes, greatest_until, Span, earliest, latest, IsTimely, Stacks.{Pending.Rise, Ticks.{rank_order, ranked}}}
use Rattle.span_report.proofs.StackLemmas.RankOrder.{outranks-before, ranked-sorted}

starts-rise : (a b : Span Bytes) → rank_order a b ≡ Less → a.start ≤ℤ b.start
starts-rise a b before = by ((Decides-outranks b a).0 (outranks-before a b before).0)
  where
    by : IsAbove b a → a.start ≤ℤ b.start
    by (inl later) = omega (arith, ints, later)
    by (inr (together, rest)) = omega (arith, ints, together)

Rise-sorted : (spans : List (Span Bytes)) → IsStrictlySortedBy rank_order spans → Rise spans
unfolding IsStrictlySortedBy
Rise-sorted [] sorted j k d before within = absurd (omega (arith, within))
Rise-sorted (s ∷ spans) sorted zero zero d before within = omega (arith, ints)
Rise-sorted (s ∷ spans) sorted zero (suc k) d before within = first k spans sorted.0 (omega (arith, within))
  where
    first : (k : ℕ) (xs : List (Span Bytes)) → AllByRecursion (λ x. rank_order s x ≡ Less) xs → k < length xs → s.start ≤ℤ (get_or xs k d).start
    first k [] above within = absurd (omega (arith, within))
    first zero (x ∷ xs) above within = starts-rise s x above.0
    first (suc k) (x ∷ xs) above within = first k xs above.1 (omega (arith, within))
Rise-sorted (s ∷ spans) sorted (suc j) zero d before within = absurd (omega (arith, before))
Rise-sorted (s ∷ spans) sorted (suc j) (suc k) d before within = Rise-sorted spans sorted.1 j k d (omega (arith, before)) (omega (arith, within))

pub Rise-ranked : (spans : List (Span Bytes)) → Rise (ranked spans)
Rise-ranked spans = Rise-sorted (ranked spans) (ranked-sorted spans)

pub least-le-earliest : (spans : List (Span Bytes)) → All IsTimely spans → least_time ≤ℤ earliest spans
least-le-earliest [] timely = omega (arith, ints)
least-le-earliest (s ∷ spans) timely = omega (arith, ints, clamps, (All-head IsTimely s spans timely).0, least-le-earliest spans (All-tail IsTimely s spans timely))

pub latest-le-greatest : (spans : List (Span Bytes)) → All IsTimely spans → latest spans ≤ℤ greatest_until
latest-le-greatest [] timely = omega (arith, ints)
latest-le-greatest (s ∷ spans) timely = omega (arith, ints, clamps, (All-head IsTimely s spans timely).1, latest-le-greatest spans (All-tail IsTimely s spans timely))

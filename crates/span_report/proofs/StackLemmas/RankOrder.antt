-- Spans with different positions have one order by rank.
use Rattle.std.specs.{Cmp.{IsTotalOrder, int_cmp_total}, List.{AllByRecursion, IsDistinct, Sorted.{IsPermutation, IsStrictlySortedBy}}, Ordering.{eq_by_cmp, int_cmp, nat_cmp, ordering_then}, declared.cmp.Ordering.{Ordering, TheVariants.{Less, Equal, Greater}}}
use Rattle.std.proofs.{Common.{◌≡◌, ◌≢◌, Bool, true, false, cond, List, [], ◌∷◌, refl, sym, ◌∙◌, subst, arith, true≢false}, lemmas.{Bool.Decides.nat_tests, Cmp.{back_total, nat_cmp_total, on_total, then_total}, Int.ints}}
use Rattle.span_self_time.proofs.Ranks.{outranks-itself, outranks-trans}
use Rattle.span_journal.proofs.Sorted.{ascending-sorted}
use Rattle.span_ledger.proofs.Sorting.{ascending-permutation}
use Rattle.span_report.specs.{AreSpans, IsApart, Span, outranks, Stacks.Ticks.{rank_order, ranked}}

module _ {N : Type 0} where
  -- by start, then the longer one first, then by position
  abbrev pub by_start : Span N → Span N → Ordering
  by_start a b = ordering_then (int_cmp a.start b.start) (ordering_then (int_cmp b.until a.until) (nat_cmp a.at b.at))

  pub rank_order-by_start : (a b : Span N) → rank_order a b ≡ by_start a b
  rank_order-by_start a b = grind (arith, ints, nat_tests)

  by_start-total : IsTotalOrder by_start
  by_start-total = then_total (on_total (λ (s : Span N). s.start) int_cmp_total) (then_total (on_total (λ (s : Span N). s.until) (back_total int_cmp_total)) (on_total (λ (s : Span N). s.at) nat_cmp_total))

  pub rank_order-total : IsTotalOrder (rank_order {N = N})
  rank_order-total = subst IsTotalOrder (λ i a b. sym (rank_order-by_start a b) i) by_start-total

  -- spans at different positions don't tie
  untied : (a b : Span N) → b.at ≢ a.at → eq_by_cmp rank_order a b ≡ false
  untied a b apart = grind (arith, ints, nat_tests)

  pub AreSpans-distinct : (spans : List (Span N)) → AreSpans spans → IsDistinct (eq_by_cmp rank_order) spans
  unfolding IsDistinct
  AreSpans-distinct [] are = tt
  AreSpans-distinct (s ∷ spans) are = (each spans are.1, AreSpans-distinct spans are.2)
    where
      each : (others : List (Span N)) → IsApart s.at others → AllByRecursion (λ x. eq_by_cmp rank_order s x ≡ false) others
      each [] apart = tt
      each (x ∷ others) apart = (untied s x apart.0, each others apart.1)

  pub ranked-sorted : (spans : List (Span N)) → IsStrictlySortedBy rank_order (ranked spans)
  ranked-sorted spans = ascending-sorted rank_order-total spans

  pub ranked-permutation : (spans : List (Span N)) → AreSpans spans → IsPermutation spans (ranked spans)
  ranked-permutation spans are = ascending-permutation rank_order-total spans (AreSpans-distinct spans are)

  -- what comes before ranks below, and not above
  pub outranks-before : (a b : Span N) → rank_order a b ≡ Less → (outranks b a ≡ true) × (outranks a b ≡ false)
  outranks-before a b before = by (outranks b a) (outranks a b) refl refl before
    where
      by : (above below : Bool) → outranks b a ≡ above → outranks a b ≡ below → cond above Less (cond below Greater Equal) ≡ Less → (above ≡ true) × (below ≡ false)
      by true false h k e = (refl, refl)
      by true true h k e = absurd (true≢false (sym (outranks-trans a b a k h) ∙ outranks-itself a))
      by false true h k e = absurd cc
      by false false h k e = absurd cc

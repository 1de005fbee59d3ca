-- That self times add up to busy time.
use Rattle.std.specs.List.{sum_by}
use Rattle.std.proofs.{Common.{◌≡◌, ◌≤ℤ◌, ℤ, Bool, true, false, cond, List, [], ◌∷◌, not, ◌&&◌, ap₂, ◌+◌, sym, ◌∙◌, refl, arith, All}, lemmas.{Int.{ints, clamps}, List.{Elements.{All-nil, All-cons, All-head, All-tail}, Sums.sum_by-cons}}}
use Rattle.span_self_time.specs.{distance, Laws.AreSpans, Spans.{Span, self_time, busy_time, covers, outranks, is_outranked, is_covered, count_from, earliest, latest}}
use Rattle.span_self_time.proofs.{Counts.{count_from-covered, count_from-none, sum_by-count_from}, Ranks.{outranks-itself, outranks-trans, IsRanked-spans}, Tops.sum_by-tops}

module _ {N : Type 0} where
  All-ends : (a b : ℤ) (spans : List (Span N)) → a ≤ℤ earliest spans → latest spans ≤ℤ b → All (λ s. (a ≤ℤ s.start) × (s.until ≤ℤ b)) spans
  All-ends a b [] starts ends = All-nil (λ (s : Span N). (a ≤ℤ s.start) × (s.until ≤ℤ b))
  All-ends a b (s ∷ spans) starts ends =
      All-cons (λ (x : Span N). (a ≤ℤ x.start) × (x.until ≤ℤ b)) s spans (omega (arith, ints, clamps), omega (arith, ints, clamps)) (All-ends a b spans (omega (arith, ints, clamps)) (omega (arith, ints, clamps)))

  -- the self times of those that pass a test, counted from a to b
  pub self_times-within : (q : Span N → Bool) (a b : ℤ) (all spans : List (Span N)) → AreSpans spans → All (λ s. (a ≤ℤ s.start) × (s.until ≤ℤ b)) spans → sum_by (λ s. cond (q s) (self_time all s) 0) spans ≡ sum_by (λ s. count_from a (distance a b) (λ u. q s && (covers s u && not (is_outranked all s u)))) spans
  self_times-within q a b all [] are within = refl
  self_times-within q a b all (s ∷ spans) are within =
      let ends = All-head (λ (x : Span N). (a ≤ℤ x.start) × (x.until ≤ℤ b)) s spans within in
      let rest = self_times-within q a b all spans are.2 (All-tail (λ (x : Span N). (a ≤ℤ x.start) × (x.until ≤ℤ b)) s spans within) in
      sum_by-cons (λ x. cond (q x) (self_time all x) 0) s spans
      ∙ ap₂ ◌+◌ (by_test (q s) (count_from-covered s (λ u. not (is_outranked all s u)) a b ends.0 are.0 ends.1)) rest
      ∙ sym (sum_by-cons (λ x. count_from a (distance a b) (λ u. q x && (covers x u && not (is_outranked all x u)))) s spans)
    where
      by_test : (t : Bool) → count_from a (distance a b) (λ u. covers s u && not (is_outranked all s u)) ≡ self_time all s → cond t (self_time all s) 0 ≡ count_from a (distance a b) (λ u. t && (covers s u && not (is_outranked all s u)))
      by_test true counted = sym counted
      by_test false counted = sym (count_from-none (λ u. false) a (distance a b) (λ u from before. refl))

  -- the self times of all spans add up to the time that at least one of them covers
  pub sum_by-self_time : (spans : List (Span N)) → AreSpans spans → sum_by (λ s. self_time spans s) spans ≡ busy_time spans
  sum_by-self_time spans are =
      self_times-within (λ s. true) (earliest spans) (latest spans) spans spans are (All-ends (earliest spans) (latest spans) spans (omega (arith, ints)) (omega (arith, ints)))
      ∙ sum_by-count_from (λ s u. covers s u && not (is_outranked spans s u)) (is_covered spans) spans
      (λ u. sum_by-tops outranks (λ a. covers a u) outranks-itself outranks-trans spans (IsRanked-spans spans are))
      (earliest spans) (distance (earliest spans) (latest spans))

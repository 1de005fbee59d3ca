-- How many of the stacks of spans pass a test, and what the times of folded stacks add up to.
use Rattle.std.specs.{Cmp.IsTotalOrder, FinMap.slice_cmp-IsAntisymmetric, List.{count_by, list_any, sum_by}, Prelude.filter, declared.cmp.Ordering.TheVariants.Equal}
use Rattle.std.proofs.{Common.{◌≡◌, ℕ, zero, suc, ◌+◌, ℤ, pos, ◌+ℤ◌, ◌≤ℤ◌, ◌<ℤ◌, Bool, true, false, ◌&&◌, ◌||◌, cond, List, [], ◌∷◌, map, refl, sym, ap, ap₂, ◌∙◌, arith, zero-add}, lemmas.{Bool.and_left, Cmp.{lists_total, nat_list_cmp_total}, Int.{clamps, ints}, List.{Sorted.list_any-IsPermutation, Sums.sum_by-cons}}}
use Rattle.span_event.proofs.Orders.{text_same}
use Rattle.span_self_time.proofs.Counts.{add-distance, count_from-add, count_from-none, count_from-same, count_from-unbroken, covers-after, covers-before, distance-add}
use Rattle.span_closed_spans.proofs.Unbroken.{earliest-le, le-latest}
use Rattle.span_journal.proofs.Sorted.{ascending-sorted}
use Rattle.span_report.specs.{Bytes, distance, AreSpans, Span, busy_time, count_from, covers, earliest, is_covered, latest, ascending, Stacks.Ticks.{Folded, Stack, folded, folded_stacks, has_frames, ticks, names_at, ranked, same_stack, stack_at, stack_order, stacks_of}}
use Rattle.span_report.proofs.StackLemmas.{RankOrder.ranked-permutation, Tallies.sum_by-ascending}

pub stack_order-total : IsTotalOrder stack_order
stack_order-total = lists_total nat_list_cmp_total

-- stacks that tie are the same
pub stack_order-same : (a b : Stack) → stack_order a b ≡ Equal → a ≡ b
stack_order-same a b tie = slice_cmp-IsAntisymmetric text_same a b tie

pub count_by-cons : {A : Type 0} (p : A → Bool) (x : A) (xs : List A) → count_by p (x ∷ xs) ≡ cond (p x) 1 0 + count_by p xs
count_by-cons p x xs = sum_by-cons (λ y. cond (p y) 1 0) x xs

module _ {A : Type 0} (p : A → Bool) (q : A → Bool) (f : ℤ → A) where
  -- counting what passes among what was kept of the times is counting the times
  pub count_by-ticks : (t : ℤ) (n : ℕ) → count_by p (filter q (map f (ticks t n))) ≡ count_from t n (λ u. q (f u) && p (f u))
  count_by-ticks t zero = refl
  count_by-ticks t (suc n) = by (q (f t)) (count_by-ticks (t +ℤ pos 1) n)
    where
      by : (b : Bool) → count_by p (filter q (map f (ticks (t +ℤ pos 1) n))) ≡ count_from (t +ℤ pos 1) n (λ u. q (f u) && p (f u)) →
          count_by p (cond b (f t ∷ filter q (map f (ticks (t +ℤ pos 1) n))) (filter q (map f (ticks (t +ℤ pos 1) n)))) ≡ cond (b && p (f t)) 1 0 + count_from (t +ℤ pos 1) n (λ u. q (f u) && p (f u))
      by true more = count_by-cons p (f t) (filter q (map f (ticks (t +ℤ pos 1) n))) ∙ ap (λ m. cond (p (f t)) 1 0 + m) more
      by false more = more ∙ sym (zero-add _)

-- how many of the stacks pass
pub count_by-stacks_of : {N : Type 0} (p : List N → Bool) (spans : List (Span N)) →
    count_by p (stacks_of spans) ≡ count_from (earliest spans) (distance (earliest spans) (latest spans)) (λ u. has_frames (stack_at spans u) && p (stack_at spans u))
count_by-stacks_of p spans = count_by-ticks p has_frames (stack_at spans) (earliest spans) (distance (earliest spans) (latest spans))

-- the times of the folded stacks that pass add up to how many of the stacks do
pub sum_by-folded_stacks : (p : Stack → Bool) (spans : List (Span Bytes)) →
    sum_by (λ folded. folded.time) (filter (λ folded. p folded.stack) (folded_stacks spans)) ≡ count_by p (stacks_of spans)
sum_by-folded_stacks p spans =
    chosen (ascending stack_order (stacks_of spans))
    ∙ sum_by-ascending stack_order-total stack_order-same p (stacks_of spans) (ascending-sorted stack_order-total (stacks_of spans))
  where
    chosen : (ks : List Stack) → sum_by (λ (f : Folded). f.time) (filter (λ f. p f.stack) (map (folded (stacks_of spans)) ks)) ≡ sum_by (λ k. cond (p k) (count_by (same_stack k) (stacks_of spans)) 0) ks
    chosen [] = refl
    chosen (k ∷ ks) = by (p k) (chosen ks) ∙ sym (sum_by-cons (λ x. cond (p x) (count_by (same_stack x) (stacks_of spans)) 0) k ks)
      where
        by : (b : Bool) → sum_by (λ (f : Folded). f.time) (filter (λ f. p f.stack) (map (folded (stacks_of spans)) ks)) ≡ sum_by (λ x. cond (p x) (count_by (same_stack x) (stacks_of spans)) 0) ks →
            sum_by (λ (f : Folded). f.time) (cond b (folded (stacks_of spans) k ∷ filter (λ f. p f.stack) (map (folded (stacks_of spans)) ks)) (filter (λ f. p f.stack) (map (folded (stacks_of spans)) ks)))
            ≡ cond b (count_by (same_stack k) (stacks_of spans)) 0 + sum_by (λ x. cond (p x) (count_by (same_stack x) (stacks_of spans)) 0) ks
        by true rest = sum_by-cons (λ (f : Folded). f.time) (folded (stacks_of spans) k) (filter (λ f. p f.stack) (map (folded (stacks_of spans)) ks)) ∙ ap (λ n. count_by (same_stack k) (stacks_of spans) + n) rest
        by false rest = rest ∙ sym (zero-add _)

-- a stack has frames where a span covers the tick
pub has_frames-names_at : {N : Type 0} (spans : List (Span N)) (u : ℤ) → has_frames (names_at spans u) ≡ list_any (λ s. covers s u) spans
has_frames-names_at [] u = refl
has_frames-names_at (s ∷ spans) u = by (covers s u) (has_frames-names_at spans u)
  where
    by : (b : Bool) → has_frames (names_at spans u) ≡ list_any (λ s. covers s u) spans → has_frames (map (λ s. s.name) (cond b (s ∷ filter (λ s. covers s u) spans) (filter (λ s. covers s u) spans))) ≡ (b || list_any (λ s. covers s u) spans)
    by true rest = refl
    by false rest = rest

pub has_frames-stack_at : {N : Type 0} (spans : List (Span N)) → AreSpans spans → (u : ℤ) → has_frames (stack_at spans u) ≡ is_covered spans u
has_frames-stack_at spans are u = has_frames-names_at (ranked spans) u ∙ sym (list_any-IsPermutation (λ s. covers s u) spans (ranked spans) (ranked-permutation spans are))

module _ {N : Type 0} where
  -- no span covers a tick before the earliest time, or from the latest on
  is_covered-before : (spans : List (Span N)) (u : ℤ) → u <ℤ earliest spans → is_covered spans u ≡ false
  is_covered-before [] u early = refl
  is_covered-before (s ∷ spans) u early =
      ap₂ ◌||◌ (covers-before s u (omega (arith, ints, clamps, early))) (is_covered-before spans u (omega (arith, ints, clamps, early)))

  is_covered-after : (spans : List (Span N)) (u : ℤ) → latest spans ≤ℤ u → is_covered spans u ≡ false
  is_covered-after [] u late = refl
  is_covered-after (s ∷ spans) u late =
      ap₂ ◌||◌ (covers-after s u (omega (arith, ints, clamps, late))) (is_covered-after spans u (omega (arith, ints, clamps, late)))

  -- so counting through a longer time counts the same stacks
  pub count_from-around : (p : List N → Bool) (spans : List (Span N)) → AreSpans spans → (a b : ℤ) → a ≤ℤ earliest spans → latest spans ≤ℤ b →
      count_from a (distance a b) (λ u. has_frames (stack_at spans u) && p (stack_at spans u)) ≡ count_by p (stacks_of spans)
  count_from-around p spans are a b first last =
      let from = earliest spans in
      let until = latest spans in
      let passes = λ (u : ℤ). has_frames (stack_at spans u) && p (stack_at spans u) in
      let forward : from ≤ℤ until = omega (arith, ints, earliest-le spans, le-latest spans) in
      let end = add-distance from until forward in
      let none = λ (u : ℤ) (free : is_covered spans u ≡ false). and_left (has_frames (stack_at spans u)) (p (stack_at spans u)) (has_frames-stack_at spans are u ∙ free) in
      let before : count_from a (distance a b) passes ≡ 0 + count_from from (distance from b) passes =
      count_from-unbroken passes false a from b first (omega (arith, ints, forward, last)) (λ u since sooner. none u (is_covered-before spans u sooner)) in
      let rest = ap (λ n. count_from from n passes) (distance-add from until b forward last) ∙ count_from-add passes from (distance from until) (distance until b) in
      let behind = count_from-none passes (from +ℤ pos (distance from until)) (distance until b) (λ u since sooner. none u (is_covered-after spans u (omega (arith, ints, since, end)))) in
      omega (arith, before, rest, behind, count_by-stacks_of p spans)

all-kept : (xs : List Folded) → filter (λ f. true) xs ≡ xs
all-kept [] = refl
all-kept (x ∷ xs) = ap (λ l. x ∷ l) (all-kept xs)

and_true : (b : Bool) → (b && true) ≡ b
and_true true = refl
and_true false = refl

-- the times of all stacks are the ticks that spans cover
pub times-busy : (spans : List (Span Bytes)) → AreSpans spans → sum_by (λ folded. folded.time) (folded_stacks spans) ≡ busy_time spans
times-busy spans are =
    ap (sum_by (λ (f : Folded). f.time)) (sym (all-kept (folded_stacks spans)))
    ∙ sum_by-folded_stacks (λ stack. true) spans
    ∙ count_by-stacks_of (λ stack. true) spans
    ∙ count_from-same (λ u. has_frames (stack_at spans u) && true) (is_covered spans) (earliest spans) (distance (earliest spans) (latest spans)) (λ u from before. and_true (has_frames (stack_at spans u)) ∙ has_frames-stack_at spans are u)

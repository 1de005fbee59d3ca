-- The last frame of a stack is the name of the span to which the tick belongs.
use Rattle.std.specs.{List.{AllByRecursion, list_any, sum_by, Sorted.IsStrictlySortedBy}, Prelude.filter, declared.cmp.Ordering.TheVariants.Less}
use Rattle.std.proofs.{Common.{◌≡◌, ◌≤ℤ◌, ◌+◌, ℤ, Bool, true, false, not, ◌&&◌, ◌||◌, cond, List, [], ◌∷◌, map, refl, sym, ap, ap₂, ◌∙◌, arith, zero-add}, lemmas.{Int.{clamps, ints}, List.{Sorted.{list_any-IsPermutation, sum_by-IsPermutation}, Sums.sum_by-cons}}}
use Rattle.span_self_time.proofs.{Counts.{count_from-covered, count_from-none, count_from-same, sum_by-count_from}, Ranks.outranks-itself, Tops.{one_if, sum_by-same}}
use Rattle.span_report.specs.{Bytes, same_text, distance, AreSpans, Span, count_from, covers, earliest, is_outranked, latest, named, outranks, self_of, self_time, Stacks.{Laws.ends_in, Ticks.{Stack, folded_stacks, has_frames, names_at, rank_order, ranked, stack_at}}}
use Rattle.span_report.proofs.StackLemmas.{RankOrder.{outranks-before, ranked-permutation, ranked-sorted}, Times.{count_by-stacks_of, has_frames-names_at, sum_by-folded_stacks}}

module _ (name : Bytes) (u : ℤ) where
  -- the span has the name, covers u, and none of some spans that cover u ranks above it
  abbrev is_owner : List (Span Bytes) → Span Bytes → Bool
  is_owner others s = same_text s.name name && (covers s u && not (is_outranked others s u))

  -- a span below those that follow takes nothing from them
  under_none : (s : Span Bytes) (spans xs : List (Span Bytes)) → AllByRecursion (λ x. rank_order s x ≡ Less) xs →
      sum_by (λ x. one_if (is_owner (s ∷ spans) x)) xs ≡ sum_by (λ x. one_if (is_owner spans x)) xs
  under_none s spans [] below = refl
  under_none s spans (x ∷ xs) below =
      sum_by-cons (λ y. one_if (is_owner (s ∷ spans) y)) x xs
      ∙ ap₂ (λ a b. a + b) (ap (λ b. one_if (same_text x.name name && (covers x u && not b))) (dropped (covers s u) (outranks s x) (is_outranked spans x u) (outranks-before s x below.0).1)) (under_none s spans xs below.1)
      ∙ sym (sum_by-cons (λ y. one_if (is_owner spans y)) x xs)
    where
      dropped : (c above rest : Bool) → above ≡ false → ((c && above) || rest) ≡ rest
      dropped true above rest h = ap (λ b. b || rest) h
      dropped false above rest h = refl

  -- all that follow rank above
  outranked_by : (s : Span Bytes) (xs : List (Span Bytes)) → AllByRecursion (λ x. rank_order s x ≡ Less) xs → is_outranked xs s u ≡ list_any (λ x. covers x u) xs
  outranked_by s [] below = refl
  outranked_by s (x ∷ xs) below = ap₂ (λ a b. a || b) (ap (λ b. covers x u && b) (outranks-before s x below.0).0 ∙ and_true (covers x u)) (outranked_by s xs below.1)
    where
      and_true : (b : Bool) → (b && true) ≡ b
      and_true true = refl
      and_true false = refl

  -- where none covers u, there is no owner and no stack
  no_owner : (others xs : List (Span Bytes)) → list_any (λ x. covers x u) xs ≡ false → sum_by (λ x. one_if (is_owner others x)) xs ≡ 0
  no_owner others [] none = refl
  no_owner others (x ∷ xs) none =
      let parts = neither (covers x u) (list_any (λ y. covers y u) xs) none in
      sum_by-cons (λ y. one_if (is_owner others y)) x xs ∙ ap₂ (λ a b. one_if a + b) (ap (λ b. same_text x.name name && (b && not (is_outranked others x u))) parts.0 ∙ and_false (same_text x.name name)) (no_owner others xs parts.1)
    where
      neither : (a b : Bool) → (a || b) ≡ false → (a ≡ false) × (b ≡ false)
      neither true b h = absurd cc
      neither false b h = (refl, h)

      and_false : (b : Bool) → (b && false) ≡ false
      and_false true = refl
      and_false false = refl

  -- with a frame below it, a stack with frames ends as before
  ends_in-cons : (frame : Bytes) (frames : Stack) → ends_in name (frame ∷ frames) ≡ cond (has_frames frames) (ends_in name frames) (same_text frame name)
  ends_in-cons frame [] = refl
  ends_in-cons frame (next ∷ frames) = refl

  -- in ascending rank the last that covers u is the owner
  owner-last : (xs : List (Span Bytes)) → IsStrictlySortedBy rank_order xs → sum_by (λ x. one_if (is_owner xs x)) xs ≡ one_if (ends_in name (names_at xs u))
  unfolding IsStrictlySortedBy
  owner-last [] sorted = refl
  owner-last (s ∷ xs) sorted =
      sum_by-cons (λ x. one_if (is_owner (s ∷ xs) x)) s xs
      ∙ ap₂ (λ a b. one_if (same_text s.name name && (covers s u && not a)) + b) (ap₂ (λ a b. (covers s u && a) || b) (outranks-itself s) (outranked_by s xs sorted.0) ∙ ap (λ b. b || list_any (λ x. covers x u) xs) (and_false (covers s u))) (under_none s xs xs sorted.0)
      ∙ by (covers s u) (list_any (λ x. covers x u) xs) refl (owner-last xs sorted.1)
    where
      and_false : (b : Bool) → (b && false) ≡ false
      and_false true = refl
      and_false false = refl

      ands : (b : Bool) → (b && true) ≡ b
      ands true = refl
      ands false = refl

      by : (c more : Bool) → list_any (λ x. covers x u) xs ≡ more → sum_by (λ x. one_if (is_owner xs x)) xs ≡ one_if (ends_in name (names_at xs u)) →
          one_if (same_text s.name name && (c && not more)) + sum_by (λ x. one_if (is_owner xs x)) xs ≡ one_if (ends_in name (map (λ x. x.name) (cond c (s ∷ filter (λ x. covers x u) xs) (filter (λ x. covers x u) xs))))
      by false more any rest = ap (λ b. one_if b + sum_by (λ x. one_if (is_owner xs x)) xs) (and_false (same_text s.name name)) ∙ zero-add _ ∙ rest
      by true true any rest =
          ap (λ b. one_if b + sum_by (λ x. one_if (is_owner xs x)) xs) (and_false (same_text s.name name)) ∙ zero-add _ ∙ rest
          ∙ ap one_if (sym (ends_in-cons s.name (names_at xs u) ∙ ap (λ b. cond b (ends_in name (names_at xs u)) (same_text s.name name)) (has_frames-names_at xs u ∙ any)))
      by true false any rest =
          let none : sum_by (λ x. one_if (is_owner xs x)) xs ≡ 0 = no_owner xs xs any in
          let alone : one_if (same_text s.name name && true) ≡ one_if (same_text s.name name) = ap one_if (ands (same_text s.name name)) in
          omega (arith, none, alone) ∙ ap one_if (sym (ends_in-cons s.name (names_at xs u) ∙ ap (λ b. cond b (ends_in name (names_at xs u)) (same_text s.name name)) (has_frames-names_at xs u ∙ any)))

  -- the same of spans in any order
  pub owner-stack_at : (spans : List (Span Bytes)) → AreSpans spans → sum_by (λ x. one_if (is_owner spans x)) spans ≡ one_if (ends_in name (stack_at spans u))
  owner-stack_at spans are =
      let moved = ranked-permutation spans are in
      sym (sum_by-IsPermutation (λ x. one_if (is_owner spans x)) spans (ranked spans) moved)
      ∙ sum_by-same (λ x. one_if (is_owner spans x)) (λ x. one_if (is_owner (ranked spans) x)) (λ x. ap (λ b. one_if (same_text x.name name && (covers x u && not b))) (list_any-IsPermutation (λ a. covers a u && outranks a x) spans (ranked spans) moved)) (ranked spans)
      ∙ owner-last (ranked spans) (ranked-sorted spans)

-- the self times of those of the spans that have the name, in a stretch of time in which all of these lie
module _ (name : Bytes) (all : List (Span Bytes)) where
  abbrev AreWithin : ℤ → ℤ → List (Span Bytes) → Type 0
  AreWithin a b [] = Unit {0}
  AreWithin a b (s ∷ spans) = (a ≤ℤ s.start) × (s.start ≤ℤ s.until) × (s.until ≤ℤ b) × AreWithin a b spans

  AreWithin-ends : (a b : ℤ) (spans : List (Span Bytes)) → a ≤ℤ earliest spans → latest spans ≤ℤ b → AreSpans spans → AreWithin a b spans
  AreWithin-ends a b [] starts ends are = tt
  AreWithin-ends a b (s ∷ spans) starts ends are =
      (omega (arith, ints, clamps), are.0, omega (arith, ints, clamps), AreWithin-ends a b spans (omega (arith, ints, clamps)) (omega (arith, ints, clamps)) are.2)

  self_times-named : (a b : ℤ) (spans : List (Span Bytes)) → AreWithin a b spans → sum_by (λ s. self_time all s) (named same_text name spans) ≡ sum_by (λ s. count_from a (distance a b) (λ u. is_owner name u all s)) spans
  self_times-named a b [] within = refl
  self_times-named a b (s ∷ spans) within = by (same_text s.name name) (self_times-named a b spans within.3) ∙ sym (sum_by-cons (λ s. count_from a (distance a b) (λ u. is_owner name u all s)) s spans)
    where
      by : (t : Bool) → sum_by (λ s. self_time all s) (named same_text name spans) ≡ sum_by (λ s. count_from a (distance a b) (λ u. is_owner name u all s)) spans →
          sum_by (λ s. self_time all s) (cond t (s ∷ named same_text name spans) (named same_text name spans)) ≡ count_from a (distance a b) (λ u. t && (covers s u && not (is_outranked all s u))) + sum_by (λ s. count_from a (distance a b) (λ u. is_owner name u all s)) spans
      by true rest = sum_by-cons (λ s. self_time all s) s (named same_text name spans) ∙ ap₂ (λ m n. m + n) (sym (count_from-covered s (λ u. not (is_outranked all s u)) a b within.0 within.1 within.2)) rest
      by false rest = rest ∙ sym (ap (λ n. n + sum_by (λ s. count_from a (distance a b) (λ u. is_owner name u all s)) spans) (count_from-none (λ u. false) a (distance a b) (λ u from before. refl)) ∙ zero-add _)

ends_in-framed : (name : Bytes) (stack : Stack) → (has_frames stack && ends_in name stack) ≡ ends_in name stack
ends_in-framed name [] = refl
ends_in-framed name (frame ∷ frames) = refl

-- the times of the stacks that end in a name are its self time
pub times-self : (spans : List (Span Bytes)) → AreSpans spans → (name : Bytes) →
    sum_by (λ folded. folded.time) (filter (λ folded. ends_in name folded.stack) (folded_stacks spans)) ≡ self_of same_text name spans
times-self spans are name =
    let from = earliest spans in
    let n = distance (earliest spans) (latest spans) in
    sum_by-folded_stacks (ends_in name) spans
    ∙ count_by-stacks_of (ends_in name) spans
    ∙ count_from-same (λ u. has_frames (stack_at spans u) && ends_in name (stack_at spans u)) (λ u. ends_in name (stack_at spans u)) from n (λ u from before. ends_in-framed name (stack_at spans u))
    ∙ sym (sum_by-count_from (λ s u. is_owner name u spans s) (λ u. ends_in name (stack_at spans u)) spans (λ u. owner-stack_at name u spans are) from n)
    ∙ sym (self_times-named name spans (earliest spans) (latest spans) spans (AreWithin-ends name spans (earliest spans) (latest spans) spans (omega (arith, ints)) (omega (arith, ints)) are))

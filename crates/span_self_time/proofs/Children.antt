-- That a span's self time is what its direct children leave of it, where spans nest or are disjoint.
use Rattle.std.specs.{Bool.Decides, List.{sum_by, list_any}}
use Rattle.std.proofs.{Common.{◌≡◌, ℕ, zero, suc, ◌+◌, Bool, true, false, not, ◌&&◌, ◌||◌, cond, ℤ, pos, ◌+ℤ◌, ◌≤ℤ◌, ◌<ℤ◌, int_le, List, [], ◌∷◌, filter, refl, sym, ap, ap₂, ◌∙◌, true≢false, arith, All, get_or}, lemmas.{Grind.common_steps, Bool.{and_parts, and_right, Decides.Decides-and}, Int.ints, List.{Elements.{All-head, All-tail}, Sums.sum_by-cons}}}
use Rattle.span_self_time.specs.{Laws.{AreSpans, NestOrAreDisjoint, AreNested, is_child, is_direct_child, direct_children}, Spans.{Span, covers, outranks, is_outranked, count_from, length_of, self_time}}
use Rattle.span_self_time.proofs.{Apart.All-lasts, Counts.{count_from-same, count_from-none, count_from-covered, count_from-all, sum_by-count_from, sum_by-nothing, add-distance}, Ranks.{Decides-int_lt, IsAbove, Decides-outranks, outranks-itself, outranks-trans, IsRanked-spans}, Tops.{one_if, is_below, sum_by-tops, IsRanked, IsConnected}}

same_tests : (a b : Bool) → (a ≡ true → b ≡ true) → (b ≡ true → a ≡ true) → a ≡ b
same_tests true b to from = sym (to refl)
same_tests false true to from = from refl
same_tests false false to from = refl

-- what holds of each element makes two sums one
sum_by-same_at : {A : Type 0} (f g : A → ℕ) (xs : List A) → All (λ x. f x ≡ g x) xs → sum_by f xs ≡ sum_by g xs
sum_by-same_at f g [] same = refl
sum_by-same_at f g (x ∷ xs) same = grind (arith, ints, common_steps, All-head, All-tail, sum_by-cons, sum_by-same_at f g xs (All-tail (λ y. f y ≡ g y) x xs same))

list_any-same_at : {A : Type 0} (p q : A → Bool) (xs : List A) → All (λ x. p x ≡ q x) xs → list_any p xs ≡ list_any q xs
list_any-same_at p q [] same = refl
list_any-same_at p q (x ∷ xs) same =
    ap₂ ◌||◌ (All-head (λ y. p y ≡ q y) x xs same) (list_any-same_at p q xs (All-tail (λ y. p y ≡ q y) x xs same))

sum_by-filter : {A : Type 0} (p : A → Bool) (f : A → ℕ) (xs : List A) → sum_by f (filter p xs) ≡ sum_by (λ x. cond (p x) (f x) 0) xs
sum_by-filter p f [] = refl
sum_by-filter p f (x ∷ xs) = by_test (p x) (sum_by-filter p f xs) ∙ sym (sum_by-cons (λ y. cond (p y) (f y) 0) x xs)
  where
    by_test : (b : Bool) → sum_by f (filter p xs) ≡ sum_by (λ y. cond (p y) (f y) 0) xs → sum_by f (cond b (x ∷ filter p xs) (filter p xs)) ≡ cond b (f x) 0 + sum_by (λ y. cond (p y) (f y) 0) xs
    by_test true rest = sum_by-cons f x (filter p xs) ∙ ap (λ n. f x + n) rest
    by_test false rest = omega (arith, rest)

count_from-not : (p : ℤ → Bool) (t : ℤ) (n : ℕ) → count_from t n (λ u. not (p u)) + count_from t n p ≡ n
count_from-not p t zero = refl
count_from-not p t (suc n) = by_test (p t) (count_from-not p (t +ℤ pos 1) n)
  where
    by_test : (b : Bool) → count_from (t +ℤ pos 1) n (λ u. not (p u)) + count_from (t +ℤ pos 1) n p ≡ n → (one_if (not b) + count_from (t +ℤ pos 1) n (λ u. not (p u))) + (one_if b + count_from (t +ℤ pos 1) n p) ≡ suc n
    by_test true rest = omega (arith, rest)
    by_test false rest = omega (arith, rest)

Decides-int_le : (a b : ℤ) → Decides (int_le a b) (a ≤ℤ b)
Decides-int_le a b = (λ h. grind (arith, ints), λ h. grind (arith, ints))

module _ {N : Type 0} where
  Decides-covers : (s : Span N) (u : ℤ) → Decides (covers s u) ((s.start ≤ℤ u) × (u <ℤ s.until))
  Decides-covers s u = Decides-and _ _ (Decides-int_le s.start u) (Decides-int_lt u s.until)

  Decides-is_child : (c p : Span N) → Decides (is_child c p) (((p.start ≤ℤ c.start) × (c.until ≤ℤ p.until)) × IsAbove c p)
  Decides-is_child c p = Decides-and _ _ (Decides-and _ _ (Decides-int_le p.start c.start) (Decides-int_le c.until p.until)) (Decides-outranks c p)

  is_child-outranks : (c p : Span N) (u : ℤ) → NestOrAreDisjoint p c → covers p u ≡ true → covers c u ≡ true → is_child c p ≡ outranks c p
  is_child-outranks c p u nest here there = grind (arith, ints, common_steps)

  -- a parent covers what its child covers
  covers-parent : (c p : Span N) (u : ℤ) → covers c u ≡ true → is_child c p ≡ true → covers p u ≡ true
  covers-parent c p u there child = grind (arith, ints, common_steps)

  -- another child of s that b is a child of, and one that b ranks above
  between : (s b x : Span N) (u : ℤ) (cover : Bool) → covers x u ≡ cover → covers s u ≡ true → covers b u ≡ true → NestOrAreDisjoint s x → NestOrAreDisjoint x b → (is_child x s && is_child b x) ≡ ((cover && outranks x s) && outranks b x)
  between s b x u true there here mine s_x x_b = ap₂ ◌&&◌ (is_child-outranks x s u s_x here there) (is_child-outranks b x u x_b there mine)
  between s b x u false there here mine s_x x_b = same_tests _ _
      (λ h. absurd (true≢false (sym (covers-parent b x u mine (and_parts (is_child x s) (is_child b x) h).1) ∙ there)))
      (λ h. absurd (true≢false (sym h)))

  -- at a tick of s, a direct child that covers it is the lowest of the spans above s
  direct_at : (spans : List (Span N)) (s b : Span N) (u : ℤ) (cover : Bool) → covers b u ≡ cover → covers s u ≡ true → NestOrAreDisjoint s b → All (λ x. NestOrAreDisjoint s x) spans → All (λ x. NestOrAreDisjoint x b) spans → (cover && is_direct_child spans b s) ≡ ((cover && outranks b s) && not (is_below (λ x y. outranks y x) (λ x. covers x u && outranks x s) b spans))
  direct_at spans s b u false there here nest with_s with_b = refl
  direct_at spans s b u true there here nest with_s with_b =
      ap₂ ◌&&◌ (is_child-outranks b s u nest here there)
      (ap not (list_any-same_at (λ x. is_child x s && is_child b x) (λ x. (covers x u && outranks x s) && outranks b x) spans (λ k d within. between s b (get_or spans k d) u (covers (get_or spans k d) u) refl here there (with_s k d within) (with_b k d within))))

  IsConnected-turned : (x : Span N) (spans : List (Span N)) → IsConnected outranks x spans → IsConnected (λ a b. outranks b a) x spans
  IsConnected-turned x [] connected = tt
  IsConnected-turned x (y ∷ spans) connected =
      (or_turned (outranks x y) (outranks y x) connected.0, IsConnected-turned x spans connected.1)
    where
      or_turned : (a b : Bool) → (a || b) ≡ true → (b || a) ≡ true
      or_turned true true h = refl
      or_turned true false h = refl
      or_turned false true h = refl
      or_turned false false h = h

  IsRanked-turned : (spans : List (Span N)) → IsRanked outranks spans → IsRanked (λ a b. outranks b a) spans
  IsRanked-turned [] ranked = tt
  IsRanked-turned (x ∷ spans) ranked = (IsConnected-turned x spans ranked.0, IsRanked-turned spans ranked.1)

  -- one direct child covers a tick of s, where any span above s does
  direct_children-at : (spans : List (Span N)) (s : Span N) (u : ℤ) → AreSpans spans → AreNested spans → All (λ x. NestOrAreDisjoint s x) spans → covers s u ≡ true → sum_by (λ b. one_if (covers b u && is_direct_child spans b s)) spans ≡ one_if (is_outranked spans s u)
  direct_children-at spans s u are nested with_s here =
      sum_by-same_at (λ b. one_if (covers b u && is_direct_child spans b s)) (λ b. one_if ((covers b u && outranks b s) && not (is_below (λ x y. outranks y x) (λ x. covers x u && outranks x s) b spans))) spans
      (λ k d within. ap one_if (direct_at spans s (get_or spans k d) u (covers (get_or spans k d) u) refl here (with_s k d within) with_s (λ j e there. nested j e there k d within)))
      ∙ sum_by-tops (λ x y. outranks y x) (λ x. covers x u && outranks x s) outranks-itself (λ x y z h k. outranks-trans z y x k h) spans (IsRanked-turned spans (IsRanked-spans spans are))

  covers-window : (s : Span N) (u : ℤ) → s.start ≤ℤ s.until → s.start ≤ℤ u → u <ℤ (s.start +ℤ pos (length_of s)) → covers s u ≡ true
  covers-window s u lasts from before =
      let end = add-distance s.start s.until lasts in (Decides-covers s u).1 (from, omega (arith, ints, end))

  -- a child's length, counted through its parent
  child-length : (b s : Span N) (direct : Bool) → s.start ≤ℤ s.until → b.start ≤ℤ b.until → (direct ≡ true → is_child b s ≡ true) → cond direct (length_of b) 0 ≡ count_from s.start (length_of s) (λ u. covers s u && (covers b u && direct))
  child-length b s true s_lasts b_lasts child =
      let within = ((Decides-is_child b s).0 (child refl)).0 in
      let dropped = count_from-same (λ u. covers s u && (covers b u && true)) (λ u. covers b u && true) s.start (length_of s) (λ u from before. ap (λ t. t && (covers b u && true)) (covers-window s u s_lasts from before)) in
      let counted = count_from-covered b (λ u. true) s.start s.until within.0 b_lasts within.1 in
      let whole = count_from-all (λ u. true) b.start (length_of b) (λ u from before. refl) in
      sym (dropped ∙ counted ∙ whole)
  child-length b s false s_lasts b_lasts child =
      sym (count_from-none (λ u. covers s u && (covers b u && false)) s.start (length_of s) (λ u from before. and_right (covers s u) (covers b u && false) (and_right (covers b u) false refl)))

  -- the same at any tick, in s or not
  direct_children-anywhere : (spans : List (Span N)) (s : Span N) (u : ℤ) → AreSpans spans → AreNested spans → All (λ x. NestOrAreDisjoint s x) spans → sum_by (λ b. one_if (covers s u && (covers b u && is_direct_child spans b s))) spans ≡ one_if (covers s u && is_outranked spans s u)
  direct_children-anywhere spans s u are nested with_s = by_test (covers s u) refl
    where
      by_test : (t : Bool) → covers s u ≡ t → sum_by (λ b. one_if (t && (covers b u && is_direct_child spans b s))) spans ≡ one_if (t && is_outranked spans s u)
      by_test true here = direct_children-at spans s u are nested with_s here
      by_test false here = sum_by-nothing spans

  length-direct_children : (spans : List (Span N)) (s : Span N) → AreSpans spans → AreNested spans → All (λ x. NestOrAreDisjoint s x) spans → s.start ≤ℤ s.until → sum_by (λ b. length_of b) (direct_children spans s) ≡ count_from s.start (length_of s) (λ u. is_outranked spans s u)
  length-direct_children spans s are nested with_s lasts =
      sum_by-filter (λ b. is_direct_child spans b s) (λ b. length_of b) spans
      ∙ sum_by-same_at (λ b. cond (is_direct_child spans b s) (length_of b) 0) (λ b. count_from s.start (length_of s) (λ u. covers s u && (covers b u && is_direct_child spans b s))) spans
      (λ k d within. let b = get_or spans k d in child-length b s (is_direct_child spans b s) lasts (All-lasts spans are k d within) (λ direct. (and_parts (is_child b s) (not (list_any (λ x. is_child x s && is_child b x) spans)) direct).0))
      ∙ sum_by-count_from (λ b u. covers s u && (covers b u && is_direct_child spans b s)) (λ u. covers s u && is_outranked spans s u) spans (λ u. direct_children-anywhere spans s u are nested with_s) s.start (length_of s)
      ∙ count_from-same (λ u. covers s u && is_outranked spans s u) (λ u. is_outranked spans s u) s.start (length_of s) (λ u from before. ap (λ t. t && is_outranked spans s u) (covers-window s u lasts from before))

  -- what the direct children leave of a span is its own
  pub self_time-add-direct_children : (spans : List (Span N)) → AreSpans spans → AreNested spans → All (λ s. self_time spans s + sum_by (λ child. length_of child) (direct_children spans s) ≡ length_of s) spans
  self_time-add-direct_children spans are nested = λ k d within.
      let s = get_or spans k d in
      let left = length-direct_children spans s are nested (nested k d within) (All-lasts spans are k d within) in
      omega (arith, left, count_from-not (λ u. is_outranked spans s u) s.start (length_of s))

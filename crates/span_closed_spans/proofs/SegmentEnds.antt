-- That a segment starts and ends where spans do, and how many segments there can be.
use Rattle.std.specs.{List.{list_any, count_by, AllByRecursion, IsDistinct}, Ordering.int_eq}
use Rattle.std.proofs.{Common.{◌≡◌, ◌≢◌, ◌≤◌, ℕ, ◌*◌, nat_eq, Bool, true, false, ◌&&◌, ◌||◌, not, cond, ℤ, pos, ◌-ℤ◌, ◌-◌, ◌≤ℤ◌, ◌<ℤ◌, List, [], ◌∷◌, ◌++◌, map, length, slice_get, IfSome, refl, sym, ap, ap₂, subst, ◌∙◌, arith, length-append, All, true≢false, inl, inr}, lemmas.{Grind.common_steps, Bool.{eq-eqb, or_cases, or_parts}, Cmp.int_eq_equiv, Int.{ints}, List.{length-map, Elements.{All-nil, All-cons, All-head, All-tail}, Folds.list_any-append, Sums.sum_by-cons}, Map.{Keys.IsDistinct-cons, Made.length-le_from_is_member}, Option.slice_get_cases}}
use Rattle.span_self_time.proofs.Segments.{AreFrom, AreFrom-until, is_in_segment-before, is_in_segment-head, is_in_segment-until}
use Rattle.span_closed_spans.specs.{Segment, Span, covers, outranks, is_outranked, is_in_segment, is_on_top, lasts, has_end, is_end, HasEnds, IsRightBefore, AreInOrder, AreSegments}

abbrev HasNoEnd : ℤ → Span ℕ → Type 0
HasNoEnd u s = has_end u s ≡ false

covers-no_end : (s : Span ℕ) (u : ℤ) → HasNoEnd u s → covers s (u -ℤ pos 1) ≡ covers s u
covers-no_end s u h = grind (arith, ints)

All-from_list_any : {A : Type 0} (p : A → Bool) (xs : List A) → list_any p xs ≡ false → All (λ x. p x ≡ false) xs
All-from_list_any p [] none = All-nil (λ x. p x ≡ false)
All-from_list_any p (x ∷ xs) none =
    let parts = or_parts (p x) (list_any p xs) none in
    All-cons (λ x. p x ≡ false) x xs parts.0 (All-from_list_any p xs parts.1)

-- where no span starts or ends, the same span is on top as in the tick before
is_on_top-no_end : (spans : List (Span ℕ)) (at : ℕ) (u : ℤ) → is_end spans u ≡ false → is_on_top spans at (u -ℤ pos 1) ≡ is_on_top spans at u
is_on_top-no_end spans at u none = on_top spans none_of
  where
    none_of : All (HasNoEnd u) spans
    none_of = All-from_list_any (has_end u) spans none

    outranked : (s : Span ℕ) (xs : List (Span ℕ)) → All (HasNoEnd u) xs → is_outranked xs s (u -ℤ pos 1) ≡ is_outranked xs s u
    outranked s [] each = refl
    outranked s (x ∷ xs) each =
        ap₂ (λ a b. (a && outranks x s) || b)
        (covers-no_end x u (All-head (HasNoEnd u) x xs each))
        (outranked s xs (All-tail (HasNoEnd u) x xs each))

    on_top : (xs : List (Span ℕ)) → All (HasNoEnd u) xs
        → list_any (λ s. nat_eq s.at at && (covers s (u -ℤ pos 1) && not (is_outranked spans s (u -ℤ pos 1)))) xs ≡ list_any (λ s. nat_eq s.at at && (covers s u && not (is_outranked spans s u))) xs
    on_top [] each = refl
    on_top (x ∷ xs) each =
        ap₂ ◌||◌
        (ap₂ (λ a b. nat_eq x.at at && (a && not b))
        (covers-no_end x u (All-head (HasNoEnd u) x xs each))
        (outranked x spans none_of))
        (on_top xs (All-tail (HasNoEnd u) x xs each))

-- the span of a segment has the tick where it starts and the last one before it ends, and neither the one before nor the one behind
record IsWhole (segments : List Segment) (g : Segment) : Type 0 where
  pub first : is_in_segment segments g.at g.start ≡ true
  pub before : is_in_segment segments g.at (g.start -ℤ pos 1) ≡ false
  pub last : is_in_segment segments g.at (g.until -ℤ pos 1) ≡ true
  pub behind : is_in_segment segments g.at g.until ≡ false

-- a later one starts no sooner than the first ends, and where the two touch they are of different spans
abbrev IsBehind : Segment → Segment → Type 0
IsBehind x g = (x.until ≤ℤ g.start) × (x.until ≡ g.start → x.at ≢ g.at) × (g.start <ℤ g.until)

IsBehind-apart : (x : Segment) (t : ℤ) (xs : List Segment) → x.until <ℤ t → AreFrom t xs → AreInOrder xs → All (IsBehind x) xs
IsBehind-apart x t [] apart from order = All-nil (IsBehind x)
IsBehind-apart x t (g ∷ xs) apart from order =
    All-cons (IsBehind x) g xs (omega (arith, ints), (λ touch. absurd (omega (arith, ints, touch))), order.0)
    (IsBehind-apart x g.until xs (omega (arith, ints, order.0)) (AreFrom-until g xs order.1) order.2)

AreBehind : (x : Segment) (xs : List Segment) → IsRightBefore x xs → AreInOrder xs → All (IsBehind x) xs
AreBehind x [] before order = All-nil (IsBehind x)
AreBehind x (g ∷ xs) before order =
    All-cons (IsBehind x) g xs (before.0, before.1, order.0)
    (IsBehind-apart x g.until xs (omega (arith, ints, before.0, order.0)) (AreFrom-until g xs order.1) order.2)

IsWhole-head : (x : Segment) (xs : List Segment) → AreInOrder (x ∷ xs) → IsWhole (x ∷ xs) x
IsWhole-head x xs order = record {
  first = is_in_segment-head x xs order x.at x.start (omega (arith, ints)) order.0 ∙ eq-eqb x.at x.at refl;
  before = is_in_segment-before x.start (x ∷ xs) order (omega (arith, ints)) x.at (x.start -ℤ pos 1) (omega (arith, ints));
  last = is_in_segment-head x xs order x.at (x.until -ℤ pos 1) (omega (arith, ints, order.0)) (omega (arith, ints)) ∙ eq-eqb x.at x.at refl;
  behind = is_in_segment-until x xs order;
}

IsWhole-tail : (x g : Segment) (xs : List Segment) → AreInOrder (x ∷ xs) → IsBehind x g → IsWhole xs g → IsWhole (x ∷ xs) g
IsWhole-tail x g xs order behind whole = grind (arith, ints, common_steps)

AreWhole : (segments : List Segment) → AreInOrder segments → All (IsWhole segments) segments
AreWhole [] order = All-nil (IsWhole [])
AreWhole (x ∷ xs) order =
    All-cons (IsWhole (x ∷ xs)) x xs (IsWhole-head x xs order) (later xs (AreBehind x xs order.1 order.2) (AreWhole xs order.2))
  where
    later : (gs : List Segment) → All (IsBehind x) gs → All (IsWhole xs) gs → All (IsWhole (x ∷ xs)) gs
    later [] behind whole = All-nil (IsWhole (x ∷ xs))
    later (g ∷ gs) behind whole =
        All-cons (IsWhole (x ∷ xs)) g gs
        (IsWhole-tail x g xs order (All-head (IsBehind x) g gs behind) (All-head (IsWhole xs) g gs whole))
        (later gs (All-tail (IsBehind x) g gs behind) (All-tail (IsWhole xs) g gs whole))

pub HasEnds-segments : (spans : List (Span ℕ)) (segments : List Segment) → AreSegments spans segments → All (HasEnds spans) segments
HasEnds-segments spans segments are = each segments (AreWhole segments are.in_order)
  where
    unless : (u : ℤ) → (is_end spans u ≡ false → ⊥) → is_end spans u ≡ true
    unless u h = by (is_end spans u) refl
      where
        by : (b : Bool) → is_end spans u ≡ b → is_end spans u ≡ true
        by true e = e
        by false e = absurd (h e)

    moved : (at : ℕ) (u : ℤ) → is_end spans u ≡ false → is_in_segment segments at (u -ℤ pos 1) ≡ is_in_segment segments at u
    moved at u none = are.exact at (u -ℤ pos 1) ∙ is_on_top-no_end spans at u none ∙ sym (are.exact at u)

    each : (gs : List Segment) → All (IsWhole segments) gs → All (HasEnds spans) gs
    each [] whole = All-nil (HasEnds spans)
    each (g ∷ gs) whole =
        let here = All-head (IsWhole segments) g gs whole in
        All-cons (HasEnds spans) g gs (
          unless g.start (λ none. true≢false (sym here.first ∙ sym (moved g.at g.start none) ∙ here.before)),
          unless g.until (λ none. true≢false (sym here.last ∙ moved g.at g.until none ∙ here.behind)),
        )
        (each gs (All-tail (IsWhole segments) g gs whole))

-- the starts and the ends of the spans that last
abbrev ends_of : List (Span ℕ) → List ℤ
ends_of [] = []
ends_of (s ∷ spans) = cond (lasts s) (s.start ∷ s.until ∷ []) [] ++ ends_of spans

length-ends_of : (spans : List (Span ℕ)) → length (ends_of spans) ≡ 2 * count_by lasts spans
length-ends_of [] = refl
length-ends_of (s ∷ spans) =
    omega (arith, length-append (cond (lasts s) (s.start ∷ s.until ∷ []) []) (ends_of spans), two (lasts s), length-ends_of spans, sum_by-cons (λ (x : Span ℕ). cond (lasts x) 1 0) s spans)
  where
    two : (b : Bool) → length (cond b (s.start ∷ s.until ∷ []) []) ≡ 2 * cond b 1 0
    two true = refl
    two false = refl

list_any-ends_of : (spans : List (Span ℕ)) (u : ℤ) → list_any (int_eq u) (ends_of spans) ≡ is_end spans u
list_any-ends_of [] u = refl
list_any-ends_of (s ∷ spans) u =
    list_any-append (int_eq u) (cond (lasts s) (s.start ∷ s.until ∷ []) []) (ends_of spans)
    ∙ ap₂ ◌||◌ (own (lasts s)) (list_any-ends_of spans u)
  where
    without_end : (a b : Bool) → (a || (b || false)) ≡ (a || b)
    without_end true b = refl
    without_end false true = refl
    without_end false false = refl

    own : (b : Bool) → list_any (int_eq u) (cond b (s.start ∷ s.until ∷ []) []) ≡ (b && (int_eq s.start u || int_eq s.until u))
    own true = ap₂ (λ a b. a || (b || false)) (int_eq_equiv.symm u s.start) (int_eq_equiv.symm u s.until) ∙ without_end (int_eq s.start u) (int_eq s.until u)
    own false = refl

abbrev untils : List Segment → List ℤ
untils segments = map (λ g. g.until) segments

-- t and the ends of the segments that start no sooner are all different
differ : (t from : ℤ) (segments : List Segment) → t ≤ℤ from → AreFrom from segments → AreInOrder segments → AllByRecursion (λ u. int_eq t u ≡ false) (untils segments)
differ t from [] before are order = tt
differ t from (g ∷ segments) before are order =
    (grind (arith, ints, before, are, order.0), differ t g.until segments (omega (arith, ints, before, are, order.0)) (AreFrom-until g segments order.1) order.2)

IsDistinct-untils : (t : ℤ) (segments : List Segment) → AreFrom t segments → AreInOrder segments → IsDistinct int_eq (t ∷ untils segments)
unfolding IsDistinct
IsDistinct-untils t [] from order = (tt, tt)
IsDistinct-untils t (g ∷ segments) from order =
    IsDistinct-cons int_eq t (untils (g ∷ segments)) (differ t t (g ∷ segments) (omega (arith, ints)) from order)
    (IsDistinct-untils g.until segments (AreFrom-until g segments order.1) order.2)

same_from : (u v : ℤ) → int_eq u v ≡ true → u ≡ v
same_from u v h = grind (arith, ints)

is_end-untils : (spans : List (Span ℕ)) (segments : List Segment) → All (HasEnds spans) segments → (u : ℤ) → list_any (int_eq u) (untils segments) ≡ true → is_end spans u ≡ true
is_end-untils spans [] ends u some = absurd (true≢false (sym some))
is_end-untils spans (g ∷ segments) ends u some =
    elim (or_cases (int_eq u g.until) (list_any (int_eq u) (untils segments)) some) [
      | inl here ↦ ap (is_end spans) (same_from u g.until here) ∙ (All-head (HasEnds spans) g segments ends).1
      | inr there ↦ is_end-untils spans segments (All-tail (HasEnds spans) g segments ends) u there
    ]

-- the start of the first segment and the ends of all are different starts and ends of spans, and a span has two
pub length-segments : (spans : List (Span ℕ)) (segments : List Segment) → AreSegments spans segments → length segments ≤ 2 * count_by lasts spans - 1
length-segments spans [] are = omega arith
length-segments spans (x ∷ xs) are =
    let ends = HasEnds-segments spans (x ∷ xs) are in
    let few = length-le_from_is_member int_eq_equiv (x.start ∷ untils (x ∷ xs)) (ends_of spans)
    (IsDistinct-untils x.start (x ∷ xs) (omega (arith, ints)) are.in_order)
    (λ u some. list_any-ends_of spans u ∙ (elim (or_cases (int_eq u x.start) (list_any (int_eq u) (untils (x ∷ xs))) some) [
      | inl here ↦ ap (is_end spans) (same_from u x.start here) ∙ (All-head (HasEnds spans) x xs ends).0
      | inr there ↦ is_end-untils spans (x ∷ xs) ends u there
    ])) in
    omega (arith, few, length-ends_of spans, length-map (x ∷ xs) (λ (g : Segment). g.until))

pub IfSome-slice_get : {A : Type 0} (P : A → Type 0) (xs : List A) (i : ℕ) → All P xs → IfSome (slice_get xs i) P
IfSome-slice_get P xs i all = elim (slice_get_cases xs i).1 [
  | inl found ↦ subst (λ o. IfSome o P) (sym found.2) (subst P found.3 (all i found.0 found.1))
  | inr none ↦ subst (λ o. IfSome o P) (sym none.1) tt
]

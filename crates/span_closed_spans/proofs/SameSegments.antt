-- That spans make no other segments than these.
use Rattle.std.specs.List.{list_any}
use Rattle.std.proofs.{Common.{◌≡◌, ℕ, nat_eq, Bool, true, ◌&&◌, ℤ, ◌≤ℤ◌, List, [], ◌∷◌, refl, sym, ap₂, ◌∙◌, subst, not, true≢false, arith, All, inl, inr}, lemmas.{Bool.{eq-eqb, eqb-true, or_cases, or_right, and_parts}, Int.{ints, by_lt_z}, List.Elements.{All-head, All-tail}}}
use Rattle.span_self_time.proofs.Segments.{IsNamed, AreFrom-until, is_in_segment-before, is_in_segment-head, is_in_segment-tail, is_in_segment-until}
use Rattle.span_closed_spans.specs.{Segment, Span, covers, is_outranked, lies_in, is_in_segment, is_on_top, AreInOrder, AreSegments}

is_in_segment-start : (x : Segment) (xs : List Segment) → AreInOrder (x ∷ xs) → is_in_segment (x ∷ xs) x.at x.start ≡ true
is_in_segment-start x xs order =
    is_in_segment-head x xs order x.at x.start (omega (arith, ints)) order.0 ∙ eq-eqb x.at x.at refl

-- the two lists say the same of each tick
abbrev Agree : List Segment → List Segment → Type 0
Agree xs ys = (at : ℕ) (u : ℤ) → is_in_segment xs at u ≡ is_in_segment ys at u

starts-le : (x y : Segment) (xs ys : List Segment) → AreInOrder (x ∷ xs) → AreInOrder (y ∷ ys) → Agree (x ∷ xs) (y ∷ ys) → y.start ≤ℤ x.start
starts-le x y xs ys order_x order_y agree =
    by_lt_z x.start y.start
    (λ early. absurd (true≢false (sym (is_in_segment-start x xs order_x) ∙ agree x.at x.start ∙ is_in_segment-before y.start (y ∷ ys) order_y (omega (arith, ints)) x.at x.start early)))
    (λ h. h)

positions-same : (x y : Segment) (xs ys : List Segment) → AreInOrder (x ∷ xs) → AreInOrder (y ∷ ys) → Agree (x ∷ xs) (y ∷ ys) → x.start ≡ y.start → y.at ≡ x.at
positions-same x y xs ys order_x order_y agree start =
    eqb-true y.at x.at
    (sym (is_in_segment-head y ys order_y x.at x.start (omega (arith, ints, start)) (omega (arith, ints, start, order_y.0))) ∙ sym (agree x.at x.start) ∙ is_in_segment-start x xs order_x)

untils-le : (x y : Segment) (xs ys : List Segment) → AreInOrder (x ∷ xs) → AreInOrder (y ∷ ys) → Agree (x ∷ xs) (y ∷ ys) → x.start ≡ y.start → y.at ≡ x.at → y.until ≤ℤ x.until
untils-le x y xs ys order_x order_y agree start position =
    by_lt_z x.until y.until
    (λ early.
    absurd (true≢false (sym (eq-eqb y.at x.at position)
    ∙ sym (is_in_segment-head y ys order_y x.at x.until (omega (arith, ints, start, order_x.0)) early) ∙ sym (agree x.at x.until) ∙ is_in_segment-until x xs order_x)))
    (λ h. h)

-- from where their equal first segments end on
agree-tail : (x : Segment) (xs ys : List Segment) → AreInOrder (x ∷ xs) → AreInOrder (x ∷ ys) → Agree (x ∷ xs) (x ∷ ys) → Agree xs ys
agree-tail x xs ys order_x order_y agree = λ at u.
    by_lt_z u x.until
    (λ early.
    is_in_segment-before x.until xs order_x.2 (AreFrom-until x xs order_x.1) at u early
    ∙ sym (is_in_segment-before x.until ys order_y.2 (AreFrom-until x ys order_y.1) at u early))
    (λ late. sym (is_in_segment-tail x xs at u late) ∙ agree at u ∙ is_in_segment-tail x ys at u late)

-- where a span has the position of both
names-same : (q : Span ℕ → Bool) (spans : List (Span ℕ)) (x y : Segment) → y.at ≡ x.at → list_any (λ s. nat_eq s.at x.at && q s) spans ≡ true → IsNamed spans x → IsNamed spans y → x.name ≡ y.name
names-same q [] x y position some named_x named_y = absurd (true≢false (sym some))
names-same q (s ∷ spans) x y position some named_x named_y =
    elim (or_cases (nat_eq s.at x.at && q s) (list_any (λ s. nat_eq s.at x.at && q s) spans) some) [
      | inl here ↦
          let same = eqb-true s.at x.at (and_parts (nat_eq s.at x.at) (q s) here).0 in
          sym (All-head (λ (s : Span ℕ). s.at ≡ x.at → s.name ≡ x.name) s spans named_x same)
          ∙ All-head (λ (s : Span ℕ). s.at ≡ y.at → s.name ≡ y.name) s spans named_y (same ∙ sym position)
      | inr there ↦
          names-same q spans x y position there (All-tail (λ (s : Span ℕ). s.at ≡ x.at → s.name ≡ x.name) s spans named_x)
          (All-tail (λ (s : Span ℕ). s.at ≡ y.at → s.name ≡ y.name) s spans named_y)
    ]

-- segments that say the same of each tick, and lie where spans are on top
same_from : (spans : List (Span ℕ)) (xs ys : List Segment) → AreInOrder xs → AreInOrder ys → Agree xs ys → All (IsNamed spans) xs → All (IsNamed spans) ys → ((at : ℕ) (u : ℤ) → is_in_segment xs at u ≡ true → is_on_top spans at u ≡ true) → xs ≡ ys
same_from spans [] [] order_x order_y agree named_x named_y on_top = refl
same_from spans [] (y ∷ ys) order_x order_y agree named_x named_y on_top =
    absurd (true≢false (sym (is_in_segment-start y ys order_y) ∙ sym (agree y.at y.start)))
same_from spans (x ∷ xs) [] order_x order_y agree named_x named_y on_top =
    absurd (true≢false (sym (is_in_segment-start x xs order_x) ∙ agree x.at x.start))
same_from spans (x ∷ xs) (y ∷ ys) order_x order_y agree named_x named_y on_top =
    let back : Agree (y ∷ ys) (x ∷ xs) = λ at u. sym (agree at u) in
    let start : x.start ≡ y.start = omega (arith, ints, starts-le x y xs ys order_x order_y agree, starts-le y x ys xs order_y order_x back) in
    let position = positions-same x y xs ys order_x order_y agree start in
    let until : x.until ≡ y.until = omega (arith, ints, untils-le x y xs ys order_x order_y agree start position, untils-le y x ys xs order_y order_x back (sym start) (sym position)) in
    let name =
    names-same (λ s. covers s x.start && not (is_outranked spans s x.start)) spans x y position (on_top x.at x.start (is_in_segment-start x xs order_x))
    (All-head (IsNamed spans) x xs named_x) (All-head (IsNamed spans) y ys named_y) in
    let head : x ≡ y = λ i. record { start = start i; until = until i; name = name i; at = sym position i } in
    let rest =
    same_from spans xs ys order_x.2 order_y.2
    (agree-tail x xs ys order_x (subst (λ g. AreInOrder (g ∷ ys)) (sym head) order_y) (subst (λ g. Agree (x ∷ xs) (g ∷ ys)) (sym head) agree))
    (All-tail (IsNamed spans) x xs named_x) (All-tail (IsNamed spans) y ys named_y)
    (λ at u within. on_top at u (or_right (nat_eq x.at at && lies_in x u) (is_in_segment xs at u) within)) in
    ap₂ ◌∷◌ head rest

-- the segments that spans make are unique
pub AreSegments-same : (spans : List (Span ℕ)) (xs ys : List Segment) → AreSegments spans xs → AreSegments spans ys → xs ≡ ys
AreSegments-same spans xs ys are_x are_y =
    same_from spans xs ys are_x.in_order are_y.in_order (λ at u. are_x.exact at u ∙ sym (are_y.exact at u)) are_x.named are_y.named
    (λ at u within. sym (are_x.exact at u) ∙ within)

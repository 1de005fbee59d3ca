-- That links lead to the highest holders.
use Rattle.std.specs.{List.{All, Contains}}
use Rattle.std.proofs.{Common.{◌≡◌, ℕ, zero, suc, ◌+◌, ◌<◌, inl, inr, Bool, true, false, ◌&&◌, int_le, List, [], ◌∷◌, Option, Some, None, length, slice_get, refl, sym, ap, ap₂, ◌∙◌, subst, arith, true≢false}, lemmas.{Bool.{and_from, and_parts, cases_order, Decides.nat_tests}, Int.ints, List.{Elements.{All-cons, All-nil}, Sorted.{All-permutation, Contains-permutation}, get_or_default}}}
use Rattle.span_self_time.proofs.Ranks.{outranks-itself}
use Rattle.span_parents.specs.{Bytes, same_text, Span, is_child, outranks, Nearest.{AreInOrder, ArePassed, IsLink, IsPlaceOfHighest, Placed, in_order_at, is_holder, name_among, nowhere, place_at, placed, placed_from, reaches}, declared.nearest.Among.Among}
use Rattle.span_parents.proofs.{Highest.outranks-back, Links.outranks-of_name, Order.{Less-before, same_name}}

-- what is placed is one of the spans, at its place
abbrev pub IsOne : Among → List (Span Bytes) → Placed → Type 0
IsOne among spans p = (s : Span Bytes) × (slice_get spans p.place ≡ Some s) × (p ≡ placed among s p.place)

All-placed_from : (among : Among) (n : ℕ) (spans all : List (Span Bytes)) → ((q : ℕ) (u : Span Bytes) → slice_get spans q ≡ Some u → slice_get all (n + q) ≡ Some u) → All (IsOne among all) (placed_from among n spans)
All-placed_from among n [] all there = All-nil (IsOne among all)
All-placed_from among n (s ∷ spans) all there =
    All-cons (IsOne among all) (placed among s n) (placed_from among (suc n) spans) (s, (subst (λ k. slice_get all k ≡ Some s) (omega arith) (there 0 s refl)), refl)
    (All-placed_from among (suc n) spans all (λ q u at. subst (λ k. slice_get all k ≡ Some u) (omega arith) (there (suc q) u at)))

Contains-placed_from : (among : Among) (n : ℕ) (spans : List (Span Bytes)) (q : ℕ) (u : Span Bytes) → slice_get spans q ≡ Some u → Contains (placed_from among n spans) (placed among u (n + q))
Contains-placed_from among n [] q u there = absurd cc
Contains-placed_from among n (s ∷ spans) zero u there =
    let same : s ≡ u = cc in
    (0, omega arith, ap (λ v. placed among v n) same ∙ ap (placed among u) (omega arith))
Contains-placed_from among n (s ∷ spans) (suc q) u there =
    let rest = Contains-placed_from among (suc n) spans q u there in
    let e : suc n + q ≡ n + suc q = omega arith in
    subst (λ k. Contains (placed among s n ∷ placed_from among (suc n) spans) (placed among u k)) e (suc rest.0, omega (arith, rest.1), rest.2)

start_le : (a b : Span Bytes) → outranks a b ≡ true → int_le b.start a.start ≡ true
start_le a b above = grind (arith, ints, nat_tests)

module _ (among : Among) (spans : List (Span Bytes)) (ordered : List Placed) (are : AreInOrder among spans ordered) where
  pub IsOne-at : (k : ℕ) → k < length ordered → IsOne among spans (in_order_at ordered k)
  IsOne-at k within =
      All-permutation (IsOne among spans) (placed_from among 0 spans) ordered are.same
      (All-placed_from among 0 spans spans (λ q u there. subst (λ k. slice_get spans k ≡ Some u) (omega arith) there)) k nowhere within

  pub place_of : (q : ℕ) (u : Span Bytes) → slice_get spans q ≡ Some u → (j : ℕ) × (j < length ordered) × (in_order_at ordered j ≡ placed among u q)
  place_of q u there =
      let found = Contains-permutation (placed_from among 0 spans) ordered (placed among u (0 + q)) are.same (Contains-placed_from among 0 spans q u there) in
      (found.0, found.1, get_or_default ordered found.0 nowhere (placed among u (0 + q)) found.1 ∙ found.2 ∙ ap (placed among u) (omega arith))

  -- what reaches a span has its name
  same_names : (j k : ℕ) → reaches (in_order_at ordered j) (in_order_at ordered k) ≡ true → (in_order_at ordered j).span.name ≡ (in_order_at ordered k).span.name
  same_names j k is =
      let a = in_order_at ordered j in
      let b = in_order_at ordered k in
      same_name a.span.name b.span.name (and_parts (same_text a.span.name b.span.name) (int_le b.span.until a.span.until) is).0

  above_before : (j k : ℕ) → j < k → k < length ordered → (in_order_at ordered j).span.name ≡ (in_order_at ordered k).span.name → outranks (in_order_at ordered k).span (in_order_at ordered j).span ≡ true
  above_before j k before within same = outranks-of_name (in_order_at ordered j) (in_order_at ordered k) (Less-before ordered are.order j k before within) same

  module _ (k : ℕ) (within : k < length ordered) (p : ℕ) (s : Span Bytes) (here : in_order_at ordered k ≡ placed among s p) where
    -- a holder stands before what it holds and reaches it
    holder_before : (q : ℕ) (u : Span Bytes) → slice_get spans q ≡ Some u → is_holder among s u ≡ true
        → (j : ℕ) × (j < k) × (in_order_at ordered j ≡ placed among u q) × (reaches (in_order_at ordered j) (in_order_at ordered k) ≡ true)
    holder_before q u at holds =
        let found = place_of q u at in
        let j = found.0 in
        let parts = and_parts (same_text (name_among among u.name) (name_among among s.name)) (is_child s u) holds in
        let inner = and_parts (int_le u.start s.start && int_le s.until u.until) (outranks s u) parts.1 in
        let ends = (and_parts (int_le u.start s.start) (int_le s.until u.until) inner.0).1 in
        let reach : reaches (in_order_at ordered j) (in_order_at ordered k) ≡ true =
        ap₂ reaches found.2 here ∙ and_from (same_text (name_among among u.name) (name_among among s.name)) (int_le s.until u.until) parts.0 ends in
        let above : outranks (in_order_at ordered k).span (in_order_at ordered j).span ≡ true =
        ap₂ (λ (a b : Placed). outranks a.span b.span) here found.2 ∙ inner.1 in
        elim (cases_order j k) [
          | inl same ↦
              let itself : outranks (in_order_at ordered k).span (in_order_at ordered k).span ≡ true = subst (λ i. outranks (in_order_at ordered k).span (in_order_at ordered i).span ≡ true) same above in
              absurd (true≢false (sym itself ∙ outranks-itself (in_order_at ordered k).span))
          | inr (inl before) ↦ (j, before, found.2, reach)
          | inr (inr behind) ↦
              let back = above_before k j behind found.1 (sym (same_names j k reach)) in
              absurd (true≢false (sym above ∙ outranks-back (in_order_at ordered j).span (in_order_at ordered k).span back))
        ]

    none_holds : ArePassed ordered k None → (q : ℕ) (u : Span Bytes) → slice_get spans q ≡ Some u → (r : Bool) → is_holder among s u ≡ r → is_holder among s u ≡ false
    none_holds passed q u at false is = is
    none_holds passed q u at true is =
        let h = holder_before q u at is in
        absurd (true≢false (sym h.3 ∙ passed h.0 h.1))

    link_holds : (m : ℕ) (t : Span Bytes) (place : ℕ) → m < k → in_order_at ordered m ≡ placed among t place → reaches (in_order_at ordered m) (in_order_at ordered k) ≡ true → is_holder among s t ≡ true
    link_holds m t place before is reach =
        let parts = and_parts (same_text (name_among among t.name) (name_among among s.name)) (int_le s.until t.until) (sym (ap₂ reaches is here) ∙ reach) in
        let above : outranks s t ≡ true = sym (ap₂ (λ (a b : Placed). outranks a.span b.span) here is) ∙ above_before m k before within (same_names m k reach) in
        and_from (same_text (name_among among t.name) (name_among among s.name)) (is_child s t) parts.0
        (and_from (int_le t.start s.start && int_le s.until t.until) (outranks s t) (and_from (int_le t.start s.start) (int_le s.until t.until) (start_le s t above) parts.1) above)

    pub IsPlaceOfHighest-link : (link : Option ℕ) → IsLink ordered k link → IsPlaceOfHighest among spans s (place_at ordered link)
    IsPlaceOfHighest-link None is = λ q u at. none_holds is.passed q u at (is_holder among s u) refl
    IsPlaceOfHighest-link (Some m) is =
        let before : m < k = is.passed.0 in
        let few : m < length ordered = omega arith in
        let one = IsOne-at m few in
        let t = one.0 in (
          t,
          one.1,
          link_holds m t (in_order_at ordered m).place before one.2 is.there,
          λ q u at holds.
              let h = holder_before q u at holds in
              let j = h.0 in
              let there : (in_order_at ordered j).place ≡ q = ap (λ (a : Placed). a.place) h.2 in
              elim (cases_order j m) [
                | inl same ↦ inl (sym there ∙ ap (λ i. (in_order_at ordered i).place) same)
                | inr (inl sooner) ↦
                    inr (sym (ap₂ (λ (a b : Placed). outranks a.span b.span) one.2 h.2) ∙ above_before j m sooner few (same_names j k h.3 ∙ sym (same_names m k is.there)))
                | inr (inr later) ↦ absurd (true≢false (sym h.3 ∙ is.passed.1 j later h.1))
              ],
        )

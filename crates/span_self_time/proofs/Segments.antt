-- What segments in order say of a tick, and that the segments of the time of spans are their segments.
use Rattle.std.proofs.{Common.{◌≡◌, ◌≢◌, ℕ, nat_eq, Bool, true, false, ◌&&◌, ◌||◌, ℤ, ◌≤ℤ◌, ◌<ℤ◌, List, [], ◌∷◌, map, Some, refl, sym, ap, ap₂, ◌∙◌, arith, All, get_or}, lemmas.{Grind.common_steps, Bool.{ne_eqb, and_right, or_from}, Int.{ints, by_lt_z}, List.Elements.{All-nil, All-cons}}}
use Rattle.span_self_time.specs.{least_time, Closed.AreClosed, Division.{Owners, bare, owners_of, owner_of, AreFuture, AreOwnedSegments}, Laws.AreSpans, Segments.{lies_in, is_in_segment, IsRightBefore, AreInOrder, AreSegments, HasSegmentsWith}, Spans.Span, declared.segment.{OwnedSegment.OwnedSegment, Segment.Segment}}
use Rattle.span_self_time.proofs.{Apart.All-apart, Owners.{is_of, owners_of-All, is_on_top-owners_of}}

lies_in-before : (g : Segment) (u : ℤ) → u <ℤ g.start → lies_in g u ≡ false
lies_in-before g u h = grind (arith, ints)

lies_in-after : (g : Segment) (u : ℤ) → g.until ≤ℤ u → lies_in g u ≡ false
lies_in-after g u h = grind (arith, ints)

lies_in-between : (g : Segment) (u : ℤ) → g.start ≤ℤ u → u <ℤ g.until → lies_in g u ≡ true
lies_in-between g u h k = grind (arith, ints)

-- the first starts no sooner than t
abbrev pub AreFrom : ℤ → List Segment → Type 0
AreFrom t [] = Unit {0}
AreFrom t (g ∷ segments) = t ≤ℤ g.start

pub AreFrom-until : (g : Segment) (segments : List Segment) → IsRightBefore g segments → AreFrom g.until segments
AreFrom-until g [] before = tt
AreFrom-until g (h ∷ segments) before = before.0

pub is_in_segment-before : (t : ℤ) (segments : List Segment) → AreInOrder segments → AreFrom t segments → (at : ℕ) (u : ℤ) → u <ℤ t → is_in_segment segments at u ≡ false
is_in_segment-before t [] order from at u early = refl
is_in_segment-before t (g ∷ segments) order from at u early = grind (arith, ints, common_steps, or_from, and_right, lies_in-before, AreFrom-until, is_in_segment-before g.until segments order.2 (AreFrom-until g segments order.1) at u (omega (arith, ints)))

with_head : (b : Bool) → ((b && true) || false) ≡ b
with_head true = refl
with_head false = refl

without_head : (b rest : Bool) → ((b && false) || rest) ≡ rest
without_head true rest = refl
without_head false rest = refl

pub is_in_segment-head : (g : Segment) (segments : List Segment) → AreInOrder (g ∷ segments) → (at : ℕ) (u : ℤ) → g.start ≤ℤ u → u <ℤ g.until → is_in_segment (g ∷ segments) at u ≡ nat_eq g.at at
is_in_segment-head g segments order at u from early =
    ap₂ (λ x y. (nat_eq g.at at && x) || y) (lies_in-between g u from early) (is_in_segment-before g.until segments order.2 (AreFrom-until g segments order.1) at u early)
    ∙ with_head (nat_eq g.at at)

pub is_in_segment-tail : (g : Segment) (segments : List Segment) (at : ℕ) (u : ℤ) → g.until ≤ℤ u → is_in_segment (g ∷ segments) at u ≡ is_in_segment segments at u
is_in_segment-tail g segments at u late =
    ap₂ (λ x y. (nat_eq g.at at && x) || y) (lies_in-after g u late) refl ∙ without_head (nat_eq g.at at) (is_in_segment segments at u)

-- where a segment ends, none of the same span goes on
pub is_in_segment-until : (g : Segment) (segments : List Segment) → AreInOrder (g ∷ segments) → is_in_segment (g ∷ segments) g.at g.until ≡ false
is_in_segment-until g segments order =
    is_in_segment-tail g segments g.at g.until (omega (arith, ints)) ∙ later segments order.1 order.2
  where
    later : (segments : List Segment) → IsRightBefore g segments → AreInOrder segments → is_in_segment segments g.at g.until ≡ false
    later [] before order = refl
    later (h ∷ segments) before order =
        by_lt_z g.until h.start (λ apart. is_in_segment-before h.start (h ∷ segments) order (omega (arith, ints)) g.at g.until apart)
        (λ touch.
        is_in_segment-head h segments order g.at g.until touch (omega (arith, ints, before.0, order.0))
        ∙ ne_eqb h.at g.at (λ same. before.1 (omega (arith, ints, before.0, touch)) (sym same)))

-- each span of the segment's position has its name
abbrev pub IsNamed : List (Span ℕ) → Segment → Type 0
IsNamed spans g = All (λ s. s.at ≡ g.at → s.name ≡ g.name) spans

-- the segments without the starts and ends of their spans
abbrev plain_segments : List OwnedSegment → List Segment
plain_segments owned = map (λ p. p.segment) owned

AreFrom-owned : (owners : Owners) (t : ℤ) (owned : List OwnedSegment) → AreFuture owners t owned → AreFrom t (plain_segments owned)
AreFrom-owned owners t [] future = tt
AreFrom-owned owners t (p ∷ owned) future = future.0

-- no two owners have the same position
abbrev AreSingle : Owners → Type 0
AreSingle owners = (u v : ℤ) (a b : Span ℕ) → owners u ≡ Some a → owners v ≡ Some b → a.at ≡ b.at → a ≡ b

module _ (owners : Owners) (single : AreSingle owners) where
  -- where two segments touch, their owners differ, so their positions do
  IsRightBefore-owned : (p : OwnedSegment) (owned : List OwnedSegment) → owners p.segment.start ≡ Some (owner_of p) → owners p.segment.until ≢ Some (owner_of p) → AreFuture owners p.segment.until owned → IsRightBefore p.segment (plain_segments owned)
  IsRightBefore-owned p [] starts ends future = tt
  IsRightBefore-owned p (q ∷ owned) starts ends future = grind (arith, ints, common_steps)

  AreInOrder-owned : (t : ℤ) (owned : List OwnedSegment) → AreFuture owners t owned → AreInOrder (plain_segments owned)
  AreInOrder-owned t [] future = tt
  AreInOrder-owned t (p ∷ owned) future =
      (future.2, IsRightBefore-owned p owned (future.3 p.segment.start (omega (arith, ints)) future.2) future.4 future.5, AreInOrder-owned p.segment.until owned future.5)

  is_in_segment-owned : (t : ℤ) (owned : List OwnedSegment) → AreFuture owners t owned → (at : ℕ) (u : ℤ) → t ≤ℤ u → is_in_segment (plain_segments owned) at u ≡ is_of at (owners u)
  is_in_segment-owned t [] future at u from = sym (ap (is_of at) (future.1 u from))
  is_in_segment-owned t (p ∷ owned) future at u from =
      let order = AreInOrder-owned t (p ∷ owned) future in
      by_lt_z u p.segment.start
      (λ early.
      is_in_segment-before p.segment.start (p.segment ∷ plain_segments owned) order (omega (arith, ints)) at u early ∙ sym (ap (is_of at) (future.1 u from early)))
      (λ begun.
      by_lt_z u p.segment.until
      (λ early. is_in_segment-head p.segment (plain_segments owned) order at u begun early ∙ sym (ap (is_of at) (future.3 u begun early)))
      (λ late. is_in_segment-tail p.segment (plain_segments owned) at u late ∙ is_in_segment-owned p.segment.until owned future.5 at u late))

  is_in_segment-AreOwnedSegments : (owned : List OwnedSegment) → AreOwnedSegments owners owned → (at : ℕ) (u : ℤ) → is_in_segment (plain_segments owned) at u ≡ is_of at (owners u)
  is_in_segment-AreOwnedSegments owned are at u = grind (arith, ints, common_steps, by_lt_z, is_in_segment-before, AreInOrder-owned, AreFrom-owned, is_in_segment-owned)

-- no other of the spans has the position of this one
abbrev IsAlone : List (Span ℕ) → Span ℕ → Type 0
IsAlone spans a = All (λ b. a.at ≡ b.at → a ≡ b) spans

All-IsAlone : (spans : List (Span ℕ)) → AreSpans spans → All (IsAlone spans) spans
All-IsAlone [] are = All-nil (IsAlone [])
All-IsAlone (s ∷ spans) are =
    let apart = All-apart s.at spans are.1 in
    All-cons (IsAlone (s ∷ spans)) s spans
    (All-cons (λ (b : Span ℕ). s.at ≡ b.at → s ≡ b) s spans (λ same. refl) (λ k d within same. absurd (apart k d within (sym same))))
    (λ k d within. All-cons (λ (b : Span ℕ). (get_or spans k d).at ≡ b.at → get_or spans k d ≡ b) s spans (λ same. absurd (apart k d within same)) (All-IsAlone spans are.2 k d within))

module _ (spans : List (Span ℕ)) (are : AreSpans spans) where
  AreSingle-owners_of : AreSingle (owners_of spans)
  AreSingle-owners_of u v a b found_a found_b same =
      let first = owners_of-All (IsAlone spans) spans (All-IsAlone spans are) u a found_a in
      let second = owners_of-All (λ y. first.span.at ≡ y.at → first.span ≡ y) spans first.holds v b found_b in
      sym first.is ∙ ap bare (second.holds (ap (λ (s : Span ℕ). s.at) first.is ∙ same ∙ sym (ap (λ (s : Span ℕ). s.at) second.is))) ∙ second.is

  names-owners_of : (u : ℤ) (o : Span ℕ) → owners_of spans u ≡ Some o → All (λ s. s.at ≡ o.at → s.name ≡ o.name) spans
  names-owners_of u o found =
      let owner = owners_of-All (IsAlone spans) spans (All-IsAlone spans are) u o found in
      λ k d within same. ap (λ (s : Span ℕ). s.name) (sym (owner.holds k d within (ap (λ (s : Span ℕ). s.at) owner.is ∙ sym same)))
      ∙ ap (λ (s : Span ℕ). s.name) owner.is

  names-owned : (t : ℤ) (owned : List OwnedSegment) → AreFuture (owners_of spans) t owned → All (IsNamed spans) (plain_segments owned)
  names-owned t [] future = All-nil (IsNamed spans)
  names-owned t (p ∷ owned) future = grind (arith, ints, common_steps, All-cons, names-owners_of, names-owned p.segment.until owned future.5)

-- the segments of the time of closed spans are the segments that they make
pub AreSegments-owned : (spans : List (Span ℕ)) (owned : List OwnedSegment) → AreClosed spans → AreOwnedSegments (owners_of spans) owned → AreSegments spans (map (λ p. p.segment) owned)
AreSegments-owned spans owned closed are =
    let single = AreSingle-owners_of spans closed.are in
    record {
      in_order = AreInOrder-owned (owners_of spans) single least_time owned are.each;
      exact = λ at u. is_in_segment-AreOwnedSegments (owners_of spans) single owned are at u ∙ sym (is_on_top-owners_of spans at u);
      named = names-owned spans closed.are least_time owned are.each;
    }

pub HasSegmentsWith-owned : (P : List Segment → Type 0) (spans : List (Span ℕ)) (owned : List OwnedSegment) → AreClosed spans → AreOwnedSegments (owners_of spans) owned → P (plain_segments owned) → HasSegmentsWith spans P
HasSegmentsWith-owned P spans owned closed are holds = record { segments = plain_segments owned; are = AreSegments-owned spans owned closed are; holds = holds }

-- How the time of a thread is divided among its closed spans.
use Rattle.std.specs.{List.list_any, Ordering.int_eq, Prelude.{◌≡◌, ◌≢◌, ℕ, nat_eq, Bool, true, not, ◌&&◌, ◌||◌, ℤ, ◌≤ℤ◌, ◌<ℤ◌, int_le, int_lt, List, [], ◌∷◌, All}}
use Rattle.span_self_time.specs.{Spans.{Span, covers, is_outranked}, declared.segment.Segment.Segment}

-- u is a tick of the segment
abbrev pub lies_in : Segment → ℤ → Bool
lies_in g u = int_le g.start u && int_lt u g.until

-- u lies in a segment of the span that was opened at this position
abbrev pub is_in_segment : List Segment → ℕ → ℤ → Bool
is_in_segment segments at u = list_any (λ g. nat_eq g.at at && lies_in g u) segments

-- the span that was opened at this position covers u, and no span that covers u ranks above it
abbrev pub is_on_top : List (Span ℕ) → ℕ → ℤ → Bool
is_on_top spans at u = list_any (λ s. nat_eq s.at at && (covers s u && not (is_outranked spans s u))) spans

-- the span has a tick
abbrev pub lasts : Span ℕ → Bool
lasts s = int_lt s.start s.until

-- the span lasts, and starts or ends at u
abbrev pub has_end : ℤ → Span ℕ → Bool
has_end u s = lasts s && (int_eq s.start u || int_eq s.until u)

abbrev pub is_end : List (Span ℕ) → ℤ → Bool
is_end spans u = list_any (has_end u) spans

-- the segment starts and ends where spans do
abbrev pub HasEnds : List (Span ℕ) → Segment → Type 0
HasEnds spans g = (is_end spans g.start ≡ true) × (is_end spans g.until ≡ true)

-- the first of the others starts no sooner than g ends, and where the two touch they are of different spans
abbrev pub IsRightBefore : Segment → List Segment → Type 0
IsRightBefore g [] = Unit {0}
IsRightBefore g (h ∷ segments) = (g.until ≤ℤ h.start) × (g.until ≡ h.start → g.at ≢ h.at)

-- none is empty, and each ends no later than the next starts
abbrev pub AreInOrder : List Segment → Type 0
AreInOrder [] = Unit {0}
AreInOrder (g ∷ segments) = (g.start <ℤ g.until) × IsRightBefore g segments × AreInOrder segments

-- the segments of time that these spans make
pub record AreSegments (spans : List (Span ℕ)) (segments : List Segment) : Type 0 where
  pub in_order : AreInOrder segments
  pub exact : (at : ℕ) (u : ℤ) → is_in_segment segments at u ≡ is_on_top spans at u
  pub named : All (λ g. All (λ s. s.at ≡ g.at → s.name ≡ g.name) spans) segments

-- there are such segments
pub record HasSegments (spans : List (Span ℕ)) : Type 0 where
  pub segments : List Segment
  pub are : AreSegments spans segments

-- there are segments of these spans of which P holds
pub record HasSegmentsWith (spans : List (Span ℕ)) (P : List Segment → Type 0) : Type 0 where
  pub segments : List Segment
  pub are : AreSegments spans segments
  pub holds : P segments

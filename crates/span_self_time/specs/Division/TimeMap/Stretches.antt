-- Time cut into stretches: from each key of a map up to the next, time is of one span or of none.
use Rattle.std.specs.{BTreeMap.{get, values}, Ordering.int_cmp, Prelude.{◌≡◌, ◌≢◌, ℕ, ℤ, ◌≤ℤ◌, ◌<ℤ◌, IsSome, List, [], ◌∷◌, Option, Some, None}}
use Rattle.span_self_time.specs.{least_time, Closed.greatest_until, Division.{Owners, owner_of, Belong}, Spans.Span, declared.{division.time_map.stretches.Stretches.Stretches, segment.OwnedSegment.OwnedSegment}}

-- what starts at each time, if anything
abbrev pub Starts : Type 0
Starts = ℤ → Option (Option OwnedSegment)

abbrev pub at : Stretches → Starts
at s q = get int_cmp s.map q

-- the stretch that starts at k is the last one that starts no later than t
pub record IsLast (m : Starts) (t k : ℤ) (v : Option OwnedSegment) : Type 0 where
  pub is : m k ≡ Some v
  pub first : k ≤ℤ t
  pub none : (q : ℤ) → k <ℤ q → q ≤ℤ t → m q ≡ None

-- n is the first start after t
pub record IsNext (m : Starts) (t n : ℤ) : Type 0 where
  pub some : IsSome (m n)
  pub later : t <ℤ n
  pub none : (q : ℤ) → t <ℤ q → q <ℤ n → m q ≡ None

-- the segment at k is of its span, and the next stretch starts where it ends
pub record IsHeld (owners : Owners) (m : Starts) (k : ℤ) (p : OwnedSegment) : Type 0 where
  pub start : p.segment.start ≡ k
  pub belongs : Belong owners k p.segment.until (Some (owner_of p))
  pub next : IsNext m k p.segment.until

-- u is a tick of a segment
pub record IsOfSegment (m : Starts) (u : ℤ) : Type 0 where
  pub start : ℤ
  pub owned : OwnedSegment
  pub is : m start ≡ Some (Some owned)
  pub from : start ≤ℤ u
  pub before : u <ℤ owned.segment.until

-- the stretches are those of these owners
pub record IsDivided (owners : Owners) (m : Starts) : Type 0 where
  pub held : (k : ℤ) (p : OwnedSegment) → m k ≡ Some (Some p) → IsHeld owners m k p
  pub owned : (u : ℤ) (o : Span ℕ) → owners u ≡ Some o → IsOfSegment m u
  pub in_time : (k : ℤ) → IsSome (m k) → (least_time ≤ℤ k) × (k ≤ℤ greatest_until)

-- a segment of this owner ends at t
pub record IsEnd (m : Starts) (t : ℤ) (o : Span ℕ) : Type 0 where
  pub start : ℤ
  pub owned : OwnedSegment
  pub is : m start ≡ Some (Some owned)
  pub until : owned.segment.until ≡ t
  pub owner : owner_of owned ≡ o

-- n has v at k, and at each other time what m has
pub record IsPut (m : Starts) (k : ℤ) (v : Option (Option OwnedSegment)) (n : Starts) : Type 0 where
  pub here : n k ≡ v
  pub others : (q : ℤ) → q ≢ k → n q ≡ m q

-- each segment is as long as can be: where it ends, its span's time does
abbrev pub AreWhole : Owners → Starts → Type 0
AreWhole owners m = (t : ℤ) (o : Span ℕ) → IsEnd m t o → owners t ≢ Some o

-- two segments of one span that touch at t are one in new
pub record IsJoining (t : ℤ) (old new : Stretches) : Type 0 where
  pub divided : (x : Owners) → IsDivided x (at old) → IsDivided x (at new)
  pub keeps : (q : ℤ) → q ≢ t → IsSome (at old q) → IsSome (at new q)
  pub ends : (x : Owners) (u : ℤ) (o : Span ℕ) → IsDivided x (at old) → IsEnd (at new) u o → IsEnd (at old) u o
  pub apart : (x : Owners) (o : Span ℕ) → IsDivided x (at old) → IsEnd (at new) t o → x t ≢ Some o

-- what is there of these
abbrev pub present : List (Option OwnedSegment) → List OwnedSegment
present [] = []
present (None ∷ segments) = present segments
present (Some p ∷ segments) = p ∷ present segments

-- the segments in order
abbrev pub segments_in : Stretches → List OwnedSegment
segments_in s = present (values s.map)

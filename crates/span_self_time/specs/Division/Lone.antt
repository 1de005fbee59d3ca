-- What holds where at most one span has time.
use Rattle.std.specs.Prelude.{◌≡◌, ◌<ℤ◌, List, [], ◌∷◌, Option, Some, None}
use Rattle.span_self_time.specs.{Closed.IsInTime, Division.{Owners, owner_of, taken}, declared.segment.OwnedSegment.OwnedSegment}

-- the segment, if there is one
abbrev pub segments_of_lone : Option OwnedSegment → List OwnedSegment
segments_of_lone None = []
segments_of_lone (Some p) = p ∷ []

-- the segment is the whole of its span, which has all that it covers
pub record IsAlone (owners : Owners) (p : OwnedSegment) : Type 0 where
  pub start : p.segment.start ≡ p.span_start
  pub until : p.segment.until ≡ p.span_until
  pub lasts : p.span_start <ℤ p.span_until
  pub in_time : IsInTime (owner_of p)
  pub taken_all : owners ≡ taken (owner_of p) (λ u. None)

-- the segment is that of these owners; where there is none, nobody has time
abbrev pub IsLone : Owners → Option OwnedSegment → Type 0
IsLone owners None = owners ≡ (λ u. None)
IsLone owners (Some p) = IsAlone owners p

-- What holds of stacks of segments, and of the cursor between them, while a new span takes what is its own.
use Rattle.std.specs.Prelude.{◌≡◌, ◌≢◌, ℕ, ◌+◌, ◌*◌, ◌≤◌, ◌<◌, nat_eq, length, ◌++◌, vec_len, vec_capacity, IsSome, if◌then◌else◌, Bool, false, ℤ, pos, ◌-ℤ◌, ◌≤ℤ◌, ◌<ℤ◌, int_le, int_lt, List, [], ◌∷◌, reverse, None, Some}
use Rattle.indexmap.specs.IndexMap.{get}
use Rattle.span_self_time.specs.{distance, least_time, Closed.IsInTime, Division.{Owners, taken, taken_to, owner_of, Belong, AreFuture, AreOwnedSegments, IsNew, between, OwnTimes.AreTimes}, Spans.Span, declared.{division.segment_stacks.SegmentStacks.SegmentStacks, segment.OwnedSegment.OwnedSegment}}

-- the segments, the last first, are the time before t: each is as long as can be to its start
abbrev pub ArePast : Owners → ℤ → List OwnedSegment → Type 0
ArePast owners t [] = (least_time ≤ℤ t) × ((u : ℤ) → u <ℤ t → owners u ≡ None)
ArePast owners t (p ∷ ps) =
    (p.segment.until ≤ℤ t) × Belong owners p.segment.until t None
    × (p.segment.start <ℤ p.segment.until) × Belong owners p.segment.start p.segment.until (Some (owner_of p))
    × (owners (p.segment.start -ℤ pos 1) ≢ Some (owner_of p)) × ArePast owners p.segment.start ps

-- the ticks of a segment
abbrev pub segment_length : OwnedSegment → ℕ
segment_length p = distance p.segment.start p.segment.until

-- only this span has its position
abbrev pub IsOnly : Span ℕ → Owners → Type 0
IsOnly s owners = (u : ℤ) (owner : Span ℕ) → owners u ≡ Some owner → owner.at ≡ s.at → owner ≡ s

-- the owner before t, if there is one, is not the owner at t
abbrev pub IsChange : Owners → Owners → ℤ → Type 0
IsChange before from t = (owner : Span ℕ) → before (t -ℤ pos 1) ≡ Some owner → from t ≢ Some owner

-- the segments of the stacks in order: those before the cursor, and those behind it, of which the last comes first
abbrev pub segments_of : List OwnedSegment → List OwnedSegment → List OwnedSegment
segments_of past future = past ++ reverse future

-- what lies of a segment from a to before b, if anything
abbrev pub piece : OwnedSegment → ℤ → ℤ → List OwnedSegment
piece p a b = if int_lt a b then between p a b ∷ [] else []

-- the first of the segments ends no later than t
abbrev pub ends_by : ℤ → List OwnedSegment → Bool
ends_by t [] = false
ends_by t (p ∷ ps) = int_le p.segment.until t

-- the first of the segments ends later than t
abbrev pub lasts_beyond : ℤ → List OwnedSegment → Bool
lasts_beyond t [] = false
lasts_beyond t (p ∷ ps) = int_lt t p.segment.until

-- the first of the segments starts sooner than t
abbrev pub starts_before : ℤ → List OwnedSegment → Bool
starts_before t [] = false
starts_before t (p ∷ ps) = int_lt p.segment.start t

-- the segments of the stacks are those of these owners, and its times are those of the segments
pub record AreSegmentStacks (owners : Owners) (t : SegmentStacks) : Type 0 where
  pub segments : AreOwnedSegments owners (segments_of t.past.items t.future.items)
  pub times : AreTimes owners t.times

-- the same segments and times, if perhaps with another cursor
pub record IsMoved (old new : SegmentStacks) : Type 0 where
  pub segments : segments_of new.past.items new.future.items ≡ segments_of old.past.items old.future.items
  pub times : new.times ≡ old.times

-- the cursor stands right before the span, or before a segment that the span starts in
pub record IsAtStart (s : Span ℕ) (past future : List OwnedSegment) (owners : Owners) : Type 0 where
  pub new : IsNew s owners
  pub in_time : IsInTime s
  pub lasts : s.start <ℤ s.until
  pub ends : lasts_beyond s.start (reverse past) ≡ false
  pub beyond : ends_by s.start (reverse future) ≡ false
  pub segments : AreOwnedSegments owners (segments_of past future)

-- a new span has taken what is its own before t
pub record IsTakenTo (s : Span ℕ) (t : ℤ) (past future : List OwnedSegment) (owners : Owners) : Type 0 where
  pub new : IsNew s owners
  pub in_time : IsInTime s
  pub from : s.start ≤ℤ t
  pub before : ArePast (taken s owners) t (reverse past)
  pub after : AreFuture owners t (reverse future)
  pub change : IsChange (taken s owners) owners t

-- the segment of which a new span may take what lies from `from` on, between the segments before it and behind it
pub record IsNextSegment (s : Span ℕ) (from : ℤ) (p : OwnedSegment) (past future : List OwnedSegment) (owners : Owners) : Type 0 where
  pub new : IsNew s owners
  pub in_time : IsInTime s
  pub begins : s.start ≤ℤ from
  pub ends : from <ℤ s.until
  pub within : (p.segment.start ≤ℤ from) × (from <ℤ p.segment.until)
  pub head : p.segment.start <ℤ from → from ≡ s.start
  pub before : ArePast (taken s owners) p.segment.start (reverse past)
  pub start : taken s owners (p.segment.start -ℤ pos 1) ≢ Some (owner_of p)
  pub belongs : Belong owners p.segment.start p.segment.until (Some (owner_of p))
  pub until : owners p.segment.until ≢ Some (owner_of p)
  pub after : AreFuture owners p.segment.until (reverse future)

-- the cursor stands where a new span starts, its name has a running time, and there is room for all that it may take
pub record IsEntering (s : Span ℕ) (t : SegmentStacks) (owners : Owners) : Type 0 where
  pub start : IsAtStart s t.past.items t.future.items owners
  pub times : AreTimes owners t.times
  pub kept : IsSome (get nat_eq t.times.names s.name)
  pub room : vec_len t.past + 2 * vec_len t.future + 2 ≤ vec_capacity t.past

-- a new span has taken what is its own before `time`, and there is room for the rest
pub record IsTaking (s : Span ℕ) (time : ℤ) (t : SegmentStacks) (owners : Owners) : Type 0 where
  pub taken : IsTakenTo s time t.past.items t.future.items owners
  pub times : AreTimes (taken_to s time owners) t.times
  pub kept : IsSome (get nat_eq t.times.names s.name)
  pub room : time <ℤ s.until → vec_len t.past + 2 * vec_len t.future + 1 ≤ vec_capacity t.past

-- the same, but that the next segment is taken out
pub record IsAhead (s : Span ℕ) (time : ℤ) (p : OwnedSegment) (t : SegmentStacks) (owners : Owners) : Type 0 where
  pub taken : IsTakenTo s time t.past.items (t.future.items ++ p ∷ []) owners
  pub times : AreTimes (taken_to s time owners) t.times
  pub kept : IsSome (get nat_eq t.times.names s.name)
  pub room : vec_len t.past + 2 * vec_len t.future + 3 ≤ vec_capacity t.past
  pub room_behind : vec_len t.future < vec_capacity t.future

-- of the segment that is taken out, the span may take what lies from `from` on
pub record IsPassing (s : Span ℕ) (from : ℤ) (p : OwnedSegment) (t : SegmentStacks) (owners : Owners) : Type 0 where
  pub next : IsNextSegment s from p t.past.items t.future.items owners
  pub times : AreTimes (taken_to s from owners) t.times
  pub kept : IsSome (get nat_eq t.times.names s.name)
  pub room : vec_len t.past + 2 * vec_len t.future + 2 + length (piece p p.segment.start from) ≤ vec_capacity t.past
  pub room_behind : vec_len t.future < vec_capacity t.future

-- the past without the span's segment that reaches from `start` to `from`; where it has none, `start` is `from`
pub record IsTakenBack (s : Span ℕ) (start from : ℤ) (past : List OwnedSegment) (owners : Owners) : Type 0 where
  pub first : start ≤ℤ from
  pub before : ArePast owners start (reverse past)
  pub belongs : Belong owners start from (Some s)
  pub change : owners (start -ℤ pos 1) ≢ Some s

-- How long the segments of single spans are together, by the positions of the events that opened them.
use Rattle.std.specs.Prelude.{◌≡◌, ℕ, ◌+◌, ◌<◌, ◌^◌, nat_eq, slice_get, unwrap_or, if◌then◌else◌, List, sum_by}
use Rattle.span_self_time.specs.{Division.{own_in, SegmentStacks.segment_length}, declared.{division.lengths.Lengths.Lengths, segment.OwnedSegment.OwnedSegment}}

-- the time at a position: at its place, or in the map of those that have none
abbrev pub time_at : Lengths → ℕ → ℕ
time_at times at = unwrap_or (slice_get times.near.items at) (own_in times.far at)

-- how long the segments of the span are together that was opened at this position
abbrev pub length_at : ℕ → List OwnedSegment → ℕ
length_at at segments = sum_by (λ p. if nat_eq p.segment.at at then segment_length p else 0) segments

-- each position can gain the lengths of its segments
abbrev pub CanGain : Lengths → List OwnedSegment → Type 0
CanGain times segments = (at : ℕ) → time_at times at + length_at at segments < 2 ^ 64

-- each position has gained the lengths of its segments
abbrev pub Gains : Lengths → List OwnedSegment → Lengths → Type 0
Gains old segments new = (at : ℕ) → time_at new at ≡ time_at old at + length_at at segments

-- What holds of a division of time, whichever way it is kept.
use Rattle.std.specs.Prelude.{ℕ, List}
use Rattle.span_self_time.specs.{Division.{Owners, owners_of, Lone.IsLone, SegmentStacks.AreSegmentStacks, TimeMap.IsTimeMap}, Spans.Span, declared.division.{Division.Division, Way.{Way, TheVariants.{Lone, Stacked, Searched}}}}

-- what is kept is the time of these owners
abbrev pub IsWay : Owners → Way → Type 0
IsWay owners (Lone lone) = IsLone owners lone
IsWay owners (Stacked t) = AreSegmentStacks owners t.value
IsWay owners (Searched s) = IsTimeMap owners s.value

-- the division is that of these spans
abbrev pub Divides : List (Span ℕ) → Division → Type 0
Divides spans division = IsWay (owners_of spans) division.way

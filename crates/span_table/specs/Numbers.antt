-- The numbers of a row: what each is called, and which ones there are of what is summed.
use Rattle.std.specs.{List.{find, list_any}, Prelude.{◌&&◌, if◌then◌else◌, ℕ, Bool, true, false, List, [], ◌∷◌, Option, codes}, Str.bytes_eq}
use Rattle.span_table.specs.{Bytes, declared.{number.Number.{Number, TheVariants.{SelfTime, Total, Count, Longest, Outer, Closed, Open, Points}}, of.Of.{Of, TheVariants.{Spans, Async}}, audience.Audience.{Audience, TheVariants.{People, Programs}}}}

-- what a number is called in every text
abbrev pub number_name : Number → Bytes
number_name SelfTime = codes "self"
number_name Total = codes "total"
number_name Count = codes "count"
number_name Longest = codes "longest"
number_name Outer = codes "outer"
number_name Closed = codes "closed"
number_name Open = codes "open"
number_name Points = codes "points"

-- it is a time, and not a count
abbrev pub is_time : Number → Bool
is_time SelfTime = true
is_time Total = true
is_time Longest = true
is_time Outer = true
is_time number = false

-- only the spans of a name tell it, and not the row of the name
abbrev pub asks_each : Number → Bool
asks_each Longest = true
asks_each Outer = true
asks_each number = false

-- how wide its column is at least
abbrev pub number_width : Number → ℕ
number_width number = if is_time number then 16 else 8

-- the numbers that a text shows, for people or for other programs, where none are named
abbrev pub usual_numbers : Audience → Of → List Number
usual_numbers People Spans = SelfTime ∷ Total ∷ Count ∷ []
usual_numbers People Async = Total ∷ Closed ∷ Open ∷ Points ∷ []
usual_numbers Programs Spans = Count ∷ Total ∷ SelfTime ∷ []
usual_numbers Programs Async = Closed ∷ Total ∷ Open ∷ Points ∷ []

-- the number that rows go by, where none is named
abbrev pub usual_by : Of → Number
usual_by Spans = SelfTime
usual_by Async = Total

-- every number that what is summed has
abbrev pub all_of : Of → List Number
all_of Spans = SelfTime ∷ Total ∷ Count ∷ Longest ∷ Outer ∷ []
all_of Async = Total ∷ Closed ∷ Open ∷ Points ∷ Longest ∷ []

-- every number
abbrev pub all_numbers : List Number
all_numbers = SelfTime ∷ Total ∷ Count ∷ Longest ∷ Outer ∷ Closed ∷ Open ∷ Points ∷ []

-- the number of this name
abbrev pub number_named : Bytes → Option Number
number_named name = find (λ number. bytes_eq (number_name number) name) all_numbers

-- the number is one of these
abbrev pub has_number : List Number → Number → Bool
has_number numbers number = list_any (λ other. bytes_eq (number_name other) (number_name number)) numbers

-- both are the same numbers in the same order
abbrev pub are_same : List Number → List Number → Bool
are_same [] [] = true
are_same (number ∷ numbers) (other ∷ others) = bytes_eq (number_name number) (number_name other) && are_same numbers others
are_same numbers others = false

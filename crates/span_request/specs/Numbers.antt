-- What a table sums, and the numbers of its rows, as the words name them.
use Rattle.std.specs.{List.list_all, Prelude.{◌≡◌, ◌||◌, Bool, true, false, List, [], map, Option, Some, None, codes, if◌then◌else◌, option_and_then}, Str.bytes_eq}
use Rattle.span_request.specs.{AskedNumbers, Bytes, Options, Of, Async, Spans, Number, all_of, has_number, number_name, number_named, shown_numbers, Lists.{has_twice, names_in}}

-- what is summed, by its word
abbrev pub of_named : Bytes → Option Of
of_named word = if bytes_eq word (codes "spans") then Some Spans else if bytes_eq word (codes "async") then Some Async else None

-- spans, where nothing is said
abbrev pub of_word : Option Bytes → Option Of
of_word None = Some Spans
of_word (Some word) = of_named word

abbrev pub of_of : Options → Option Of
of_of options = of_word options.of

-- the number that rows are to go by, if one is named
abbrev pub by_of : Options → Option Number
by_of options = option_and_then number_named options.by

-- each name is that of a number
abbrev pub AreCalled : List Bytes → List Number → Type 0
AreCalled names numbers = map number_name numbers ≡ names

-- the numbers of these names, of which none comes twice
pub record AreNumbersNamed (names : List Bytes) (numbers : List Number) : Type 0 where
  pub each : AreCalled names numbers
  pub once : has_twice names ≡ false

-- those of a list, if there is one
abbrev pub AreNumbersGiven : Option Bytes → List Number → Type 0
AreNumbersGiven None numbers = numbers ≡ []
AreNumbersGiven (Some list) numbers = AreNumbersNamed (names_in list) numbers

-- the number is one of these, or none is named
abbrev pub goes_by : List Number → Option Number → Bool
goes_by numbers None = true
goes_by numbers (Some number) = has_number numbers number

-- all of them are numbers of what is summed
abbrev pub are_numbers_of : Of → List Number → Bool
are_numbers_of of numbers = list_all (has_number (all_of of)) numbers

-- something that is summed has all of them
abbrev pub are_of_one_kind : List Number → Bool
are_of_one_kind numbers = are_numbers_of Spans numbers || are_numbers_of Async numbers

-- a table that has these numbers has all that are shown of it
abbrev pub numbers_go_with : AskedNumbers → Of → List Number → Bool
numbers_go_with asked of own = list_all (has_number own) (shown_numbers asked of own)

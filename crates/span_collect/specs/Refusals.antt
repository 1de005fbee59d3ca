-- Which numbers refused items, how many each, and which item first.
pub mod Tallies
pub mod Text
pub mod Warnings
use Rattle.std.specs.{Ordering.nat_cmp, Prelude.{ℕ, ◌+◌, List, [], ◌∷◌, ◌++◌, count_by, length, Option, Some, None}}
use Rattle.span_collect.specs.{Keyed, entries_in, Answer, Accepted, CountRow, Refused, Replied, Sealed, Skipped, is_of, refused_kind, declared.refusals.tally.Refused.Refused as RefusedRow}

-- how many answers are of each kind
abbrev pub counts_in : List Answer → CountRow
counts_in answers = record {
  accepted = count_by (is_of Accepted) answers;
  refused = count_by (is_of refused_kind) answers;
  skipped = count_by (is_of Skipped) answers;
  queries = count_by (is_of Replied) answers;
  seals = count_by (is_of Sealed) answers;
}

-- a number that refused an item, with the item's place among those of its caller
abbrev pub Refusal : Type 0
Refusal = Keyed ℕ ℕ

-- the number with which an answer refuses its item
abbrev pub number_in : Answer → Option ℕ
number_in (Refused code) = Some code
number_in answer = None

-- the refusal of the item at this place, if a number refused it
abbrev pub refusal_at : ℕ → Option ℕ → List Refusal
refusal_at place None = []
refusal_at place (Some code) = record { key = code; step = place } ∷ []

-- the refusals among the answers to a caller's items, of which the first has this place
abbrev pub refusals_from : ℕ → List Answer → List Refusal
refusals_from place [] = []
refusals_from place (answer ∷ answers) = refusal_at place (number_in answer) ++ refusals_from (place + 1) answers

-- the first of some places, which are at least one
abbrev pub first_of : List ℕ → ℕ
first_of [] = 0
first_of (place ∷ places) = place

-- how many items one number refused, and which first
abbrev pub refused_at : List ℕ → RefusedRow
refused_at places = record { count = length places; first = first_of places }

-- each number that refused an item, in ascending order, with how many it refused, and which first
abbrev pub refused_by : List Answer → List (ℕ × RefusedRow)
refused_by answers = entries_in nat_cmp refused_at (refusals_from 0 answers)

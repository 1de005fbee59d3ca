-- Sums: the numbers that they have, how they are added, which are equal, and which have 64 bits.
use Rattle.std.specs.{List.list_all, Prelude.{◌==◌, ◌+◌, ◌^◌, if◌then◌else◌, max, nat_lt, ℕ, Bool, List, [], ◌∷◌}}
use Rattle.span_table.specs.{AsyncRow, SpanRow, Numbers.all_numbers, declared.{number.Number.{Number, TheVariants.{SelfTime, Total, Count, Longest, Outer, Closed, Open, Points}}, sums.Sums.Sums}}

-- the value of a number; closed asynchronous spans are counted as spans are
abbrev pub number_by : Number → Sums → ℕ
number_by SelfTime sums = sums.self_time
number_by Total sums = sums.total
number_by Count sums = sums.count
number_by Longest sums = sums.longest
number_by Outer sums = sums.outer
number_by Closed sums = sums.count
number_by Open sums = sums.unclosed
number_by Points sums = sums.points

-- sums with this value of a number
abbrev pub with_number : Number → ℕ → Sums → Sums
with_number SelfTime value sums = record sums { self_time = value }
with_number Total value sums = record sums { total = value }
with_number Count value sums = record sums { count = value }
with_number Longest value sums = record sums { longest = value }
with_number Outer value sums = record sums { outer = value }
with_number Closed value sums = record sums { count = value }
with_number Open value sums = record sums { unclosed = value }
with_number Points value sums = record sums { points = value }

-- those of nothing
abbrev pub no_sums : Sums
no_sums = record { count = 0; total = 0; self_time = 0; longest = 0; outer = 0; unclosed = 0; points = 0 }

-- the numbers of a closed span of this length and self time, which is outer or isn't
abbrev pub sums_of_span : ℕ → ℕ → Bool → Sums
sums_of_span length self_time outer = record {
  count = 1;
  total = length;
  self_time = self_time;
  longest = length;
  outer = if outer then length else 0;
  unclosed = 0;
  points = 0;
}

-- an asynchronous key with its numbers, and the length of its longest closed span
abbrev pub sums_of_async : AsyncRow → ℕ → Sums
sums_of_async row longest = record {
  count = row.totals.closed;
  total = row.totals.total;
  self_time = 0;
  longest = longest;
  outer = 0;
  unclosed = row.totals.unclosed;
  points = row.totals.points;
}

-- the sums of a row, without the numbers that only its spans tell
abbrev pub sums_of_row : SpanRow → Sums
sums_of_row row = record { count = row.count; total = row.total; self_time = row.self_time; longest = 0; outer = 0; unclosed = 0; points = 0 }

-- these sums added: of the longest the greater
abbrev pub with_sums : Sums → Sums → Sums
with_sums a b = record {
  count = a.count + b.count;
  total = a.total + b.total;
  self_time = a.self_time + b.self_time;
  longest = max a.longest b.longest;
  outer = a.outer + b.outer;
  unclosed = a.unclosed + b.unclosed;
  points = a.points + b.points;
}

-- all of these added
abbrev pub sums_together : List Sums → Sums
sums_together [] = no_sums
sums_together (s ∷ sums) = with_sums s (sums_together sums)

-- these numbers of sums alone; the others are 0
abbrev pub only : List Number → Sums → Sums
only [] sums = no_sums
only (number ∷ numbers) sums = with_number number (number_by number sums) (only numbers sums)

-- all numbers are equal
abbrev pub same_sums : Sums → Sums → Bool
same_sums a b = list_all (λ number. number_by number a == number_by number b) all_numbers

-- all numbers have 64 bits
abbrev pub fit : Sums → Bool
fit sums = list_all (λ number. nat_lt (number_by number sums) (2 ^ 64)) all_numbers

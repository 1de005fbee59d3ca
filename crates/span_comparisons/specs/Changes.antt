-- What changed between two tables of the same schema.
use Rattle.std.specs.{Int.abs_diff, Ordering.{nat_cmp, ordering_then}, Prelude.{ℕ, ◌++◌, Bool, not, List, [], ◌∷◌, map, filter, count_by}, declared.cmp.Ordering.Ordering}
use Rattle.span_comparisons.specs.{ascending, Closed, Number, Open, Row, TableKey, has_number, is_time, key_cmp, number_by, same_sums, Wanted, is_wanted, sums_at, declared.changes.Both.Both}

-- a key with its sums in both
pub record Change : Type 0 where
  pub key : TableKey
  pub both : Both

abbrev pub compared_at : List Row → List Row → TableKey → Change
compared_at base other key = record { key = key; both = record { base = sums_at base key; other = sums_at other key } }

-- each key that a row of either has, once, in ascending order, with its sums in both
abbrev pub compared : List Row → List Row → List Change
compared base other = map (compared_at base other) (ascending key_cmp (map (λ (row : Row). row.key) (base ++ other)))

-- those that are shown
abbrev pub shown_changes : Wanted → List Change → List Change
shown_changes wanted changes = filter (λ (change : Change). is_wanted wanted change.key) changes

abbrev pub is_same : Both → Bool
is_same both = same_sums both.base both.other

-- some number differs
abbrev pub is_changed : Change → Bool
is_changed change = not (is_same change.both)

-- how far a number lies apart in both
abbrev pub gap_by : Number → Change → ℕ
gap_by by change = abs_diff (number_by by change.both.base) (number_by by change.both.other)

-- the greater gap first
abbrev pub by_gap : Number → Change → Change → Ordering
by_gap by a b = nat_cmp (gap_by by b) (gap_by by a)

-- by the gaps of these numbers, one after another, and then by key
abbrev pub gaps_order : List Number → Change → Change → Ordering
gaps_order [] a b = key_cmp a.key b.key
gaps_order (number ∷ numbers) a b = ordering_then (by_gap number a b) (gaps_order numbers a b)

-- this number, then the times among these numbers in their order, and then open and closed as far as they are among them
abbrev pub order_numbers : Number → List Number → List Number
order_numbers by numbers = by ∷ (filter is_time numbers ++ filter (has_number numbers) (Open ∷ Closed ∷ []))

-- by the gaps of these, and then by key
abbrev pub change_order : Number → List Number → Change → Change → Ordering
change_order by numbers a b = gaps_order (order_numbers by numbers) a b

-- those of which some number differs, in this order
abbrev pub changes_of : Number → List Number → List Change → List Change
changes_of by numbers changes = ascending (change_order by numbers) (filter is_changed changes)

-- how many have the same numbers in both
abbrev pub same_count : List Change → ℕ
same_count changes = count_by (λ (change : Change). is_same change.both) changes

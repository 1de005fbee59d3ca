-- The facts that hold of every comparison and every text of repeated runs.
use Rattle.std.specs.{List.Sorted.{IsNonDecreasing, IsPermutation, IsStrictlySortedBy}, Prelude.{◌≡◌, ℕ, Bool, ◌+◌, ◌-◌, ◌<◌, List, ◌++◌, codes, decimal, filter, length, map, Option}}
use Rattle.span_comparisons.specs.{Unit, first_line, unit_line, Column, Number, Row, shown_line, Wanted, shown_rows, RowsRise, SpanTable, Changes.{Change, change_order, changes_of, compared, is_changed, same_count, shown_changes}, Comparison.{change_columns, compared_heads, comparison_of, difference_text, same_line}, Repeats.repeats_of, Spreads.{Spreads, apart_spreads, is_apart, overlap_count, same_spread_count, shown_spreads, sorted, spread_order}}

-- between a table and itself nothing changed: below the names of the columns is how many keys are shown
abbrev pub ComparesWithItself : Unit → Number → Option ℕ → Wanted → Bool → SpanTable → Type 0
ComparesWithItself unit by most wanted says_runs table = let shown = length (shown_rows wanted table.rows) in
    comparison_of unit by most wanted says_runs table table
    ≡ first_line ++ (unit_line unit ++ (compared_heads says_runs table.counts table.counts ++
    (shown_line wanted shown (length table.rows) ++ (change_columns table.schema ++ same_line shown))))

-- this holds of each table, in whatever unit and order
abbrev pub TablesCompareWithThemselves : Type 0
TablesCompareWithThemselves = (unit : Unit) (by : Number) (most : Option ℕ) (wanted : Wanted) (says_runs : Bool) (table : SpanTable) → RowsRise table.rows → ComparesWithItself unit by most wanted says_runs table

-- a change the other way round
abbrev pub turned : Change → Change
turned change = record { key = change.key; both = record { base = change.both.other; other = change.both.base } }

-- the keys that are shown, with their sums in both
abbrev pub shown_between : Wanted → List Row → List Row → List Change
shown_between wanted base other = shown_changes wanted (compared base other)

-- the other way round the same keys changed, printed in the same order, and as many did not
pub record TurnsEachChange (by : Number) (numbers : List Number) (wanted : Wanted) (base other : List Row) : Type 0 where
  pub changes : changes_of by numbers (shown_between wanted other base) ≡ map turned (changes_of by numbers (shown_between wanted base other))
  pub same : same_count (shown_between wanted other base) ≡ same_count (shown_between wanted base other)

-- this holds of any two lists of rows, by whatever number, whichever numbers are shown
abbrev pub ComparisonsTurn : Type 0
ComparisonsTurn = (by : Number) (numbers : List Number) (wanted : Wanted) (base other : List Row) → TurnsEachChange by numbers wanted base other

-- each key of which a number differs has its place, and no two stand at one place
pub record ShowsEachChange (by : Number) (numbers : List Number) (keys : List Change) : Type 0 where
  pub places : IsPermutation (filter is_changed keys) (changes_of by numbers keys)
  pub order : IsStrictlySortedBy (change_order by numbers) (changes_of by numbers keys)

-- this holds of the keys that are shown of any two lists of rows, by whatever number, whichever numbers are shown
abbrev pub ComparisonsHaveEachChange : Type 0
ComparisonsHaveEachChange = (by : Number) (numbers : List Number) (wanted : Wanted) (base other : List Row) → ShowsEachChange by numbers (shown_between wanted base other)

-- where one number is less than another, the difference is printed with `+` to the greater and with `-` back, and is as great
abbrev pub DifferencesTurn : Type 0
DifferencesTurn = (m n : ℕ) → m < n → (difference_text m n ≡ codes "+" ++ decimal (n - m)) × (difference_text n m ≡ codes "-" ++ decimal (n - m))

-- sorted values are these values, and none is less than the one before it
pub record SortsValues (values : List ℕ) : Type 0 where
  pub all : IsPermutation values (sorted values)
  pub order : IsNonDecreasing (sorted values)

-- this holds of any values
abbrev pub ValuesAreSorted : Type 0
ValuesAreSorted = (values : List ℕ) → SortsValues values

-- each key whose sides are apart has its place, and no two stand at one place
pub record ShowsEachSpread (spreads : List Spreads) : Type 0 where
  pub places : IsPermutation (filter is_apart spreads) (apart_spreads spreads)
  pub order : IsStrictlySortedBy spread_order (apart_spreads spreads)

-- this holds of the keys that are shown of repeated runs
abbrev pub RepetitionsHaveEachKey : Type 0
RepetitionsHaveEachKey = (by : Number) (wanted : Wanted) (base other : List SpanTable) → ShowsEachSpread (shown_spreads by wanted base other)

-- each key that is shown has its line, overlaps, or is the same
abbrev pub EachKeyIsCounted : Type 0
EachKeyIsCounted = (by : Number) (wanted : Wanted) (base other : List SpanTable) → let shown = shown_spreads by wanted base other in
    length (apart_spreads shown) + (overlap_count shown + same_spread_count shown) ≡ length shown

-- the text of repeated runs is the same for the repetitions of a side in whatever order
abbrev pub RepetitionsHaveNoOrder : Type 0
RepetitionsHaveNoOrder = (unit : Unit) (by : Number) (most : Option ℕ) (wanted : Wanted) (columns : List Column) (base other moved_base moved_other : List SpanTable) →
    IsPermutation base moved_base → IsPermutation other moved_other → repeats_of unit by most wanted columns base other ≡ repeats_of unit by most wanted columns moved_base moved_other

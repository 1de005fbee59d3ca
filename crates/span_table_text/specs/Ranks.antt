-- The rows of a table in the order of a ranking.
use Rattle.std.specs.{List.Sorted.{IsPermutation, IsStrictlySortedBy}, Ordering.{nat_cmp, ordering_then}, Prelude.List, declared.cmp.Ordering.Ordering}
use Rattle.span_table_text.specs.{ascending, Number, Row, key_cmp, RowsRise, number_by, Shown.{Wanted, shown_rows}}

-- the greater number first, and then by key
abbrev pub ranking_order : Number → Row → Row → Ordering
ranking_order by a b = ordering_then (nat_cmp (number_by by b.sums) (number_by by a.sums)) (key_cmp a.key b.key)

-- rows in the order of a ranking
abbrev pub ranked : Number → List Row → List Row
ranked by rows = ascending (ranking_order by) rows

-- each row has its place, and no two rank alike
pub record RanksEachRow (by : Number) (rows : List Row) : Type 0 where
  pub places : IsPermutation rows (ranked by rows)
  pub order : IsStrictlySortedBy (ranking_order by) (ranked by rows)

-- this holds of the rows that are shown of any that rise, by whatever number
abbrev pub RankingsHaveEachRow : Type 0
RankingsHaveEachRow = (by : Number) (wanted : Wanted) (rows : List Row) → RowsRise rows → RanksEachRow by (shown_rows wanted rows)

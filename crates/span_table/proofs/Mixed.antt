-- Rows in whatever order.
use Rattle.std.specs.{Cmp.IsTotalOrder, List.{IsDistinct, Sorted.{IsPermutation, IsStrictlySortedBy}}, Map.keys_of, Ordering.{eq_by_cmp, is_eq}, declared.cmp.Ordering.TheVariants.Less}
use Rattle.std.proofs.{Common.{◌≡◌, false, List, [], ◌∷◌, length, map, refl, sym, ap, subst}, lemmas.{Cmp.on_total, List.Sorted.length_permutation}}
use Rattle.span_keyed_tracks.proofs.{InKeyOrder.AreApart-distinct, KeyOrder.{IsDistinct-rows, ascending-rows}, Sorted.{AllByRecursion-map, ascending-sorted}, Sorting.ascending-permutation}
use Rattle.span_table.specs.{AreDistinct, in_key_order, KeyLaws.{key_cmp_total, key_cmp-same}, Keys.key_cmp, Tables.{AreRowsOf, RowsRise, SumsByKey, row_cmp, row_of}, declared.table.Row.Row}
use Rattle.span_table.proofs.OwnRows.{ascending-own}

-- the order of rows is total
pub row_cmp-total : IsTotalOrder row_cmp
row_cmp-total = on_total (λ (row : Row). row.key) key_cmp_total

-- rows that rise are distinct
pub IsDistinct-rise : (rows : List Row) → RowsRise rows → IsDistinct (eq_by_cmp row_cmp) rows
unfolding IsStrictlySortedBy IsDistinct
IsDistinct-rise [] rise = tt
IsDistinct-rise (x ∷ xs) rise = (AllByRecursion-map (λ (y : Row). row_cmp x y ≡ Less) (λ (y : Row). eq_by_cmp row_cmp x y ≡ false) (λ (y : Row) (below : row_cmp x y ≡ Less). ap is_eq below) xs rise.0, IsDistinct-rise xs rise.1)

-- they are in order
pub AreRowsOf-rise : (rows : List Row) → RowsRise rows → AreRowsOf rows rows
AreRowsOf-rise rows rise = record { distinct = IsDistinct-rise rows rise; sorted = sym (ascending-own row_cmp-total rows rise) }

-- those of entries, in whatever order these stand
pub AreRowsOf-entries : (entries : SumsByKey) → AreDistinct key_cmp entries → AreRowsOf (map row_of (in_key_order key_cmp entries)) (map row_of entries)
AreRowsOf-entries entries distinct =
    let key = λ (row : Row). row.key in
    let apart = AreApart-distinct key_cmp_total (keys_of entries) distinct in
    record {
      distinct = IsDistinct-rows key_cmp_total key_cmp-same key row_of (λ e. refl) entries apart;
      sorted = sym (ascending-rows key_cmp_total key_cmp-same key row_of (λ e. refl) entries apart);
    }

-- the rows of the table rise
pub RowsRise-sorted : (rows mixed : List Row) → AreRowsOf rows mixed → RowsRise rows
RowsRise-sorted rows mixed are = subst RowsRise (sym are.sorted) (ascending-sorted row_cmp-total mixed)

-- each row stands once among the others
pub AreRowsOf-permutation : (rows mixed : List Row) → AreRowsOf rows mixed → IsPermutation mixed rows
AreRowsOf-permutation rows mixed are = subst (IsPermutation mixed) (sym are.sorted) (ascending-permutation row_cmp-total mixed are.distinct)

-- there are as many
pub length-AreRowsOf : (rows mixed : List Row) → AreRowsOf rows mixed → length mixed ≡ length rows
length-AreRowsOf rows mixed are = sym (length_permutation mixed rows (AreRowsOf-permutation rows mixed are))

-- The rows of a table rise by their keys.
use Rattle.std.proofs.Common.{map, refl}
use Rattle.span_journal.proofs.Sorted.{ascending-sorted, entries-sorted}
use Rattle.span_table.specs.{Keyed, keys_in, steps_at, KeyLaws.key_cmp_total, Keys.{TableKey, key_cmp}, Tables.{KeyedSums, RowsRise, row_of, rows_of, sums_together}, declared.{sums.Sums.Sums, table.Row.Row}}

-- the keys of a table rise
pub RowsRise-rows_of : (sums : KeyedSums) → RowsRise (rows_of sums)
RowsRise-rows_of sums =
    entries-sorted key_cmp (λ (r : Row). r.key) row_of (λ key. sums_together (steps_at key_cmp key sums)) (λ key. refl) (keys_in key_cmp sums)
    (ascending-sorted key_cmp_total (map (λ (e : Keyed TableKey Sums). e.key) sums))

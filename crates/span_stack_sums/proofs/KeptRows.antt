-- Rows of stacks that are kept, and what they take.
use Rattle.std.specs.{BTreeMap.is_at, List.Sorted.IsStrictlySortedBy, Map.lookup, Prelude.None}
use Rattle.std.proofs.Common.{◌≡◌, ◌⊎◌, ℕ, ◌+◌, ◌<◌, ◌≤◌, List, [], ◌∷◌, ◌++◌, inl, inr, map, sym, ap, subst, ◌∙◌, arith}
use Rattle.span_table.specs.{Collected.Takes, Keys.key_cmp}
use Rattle.span_table.proofs.{Kept.{rise-taken, rows-taken, rows_with-taken, summed-own}, OwnRows.rows_of-own}
use Rattle.span_stack_sums.specs.{Keyed, KeyedSums, Row, RowsRise, Sums, SumsByKey, TableKey, keyed_rows, most_names, row_of, rows_of, rows_with, Kept.{IsKept, TakesSums}, Text.labels_in}
use Rattle.span_stack_sums.proofs.{Labels.{depth, labels-before, labels-behind, labels-new}, Taking.TakesSums-added}

-- rows in order, with nothing added since
pub IsKept-rows : (rows : List Row) → RowsRise rows → IsKept rows [] 0
unfolding IsStrictlySortedBy
IsKept-rows rows rise = record { rise = rise; kept_rise = tt; counted = omega arith }

-- the labels are counted of a new key, and no others
abbrev pub AreCounted : SumsByKey → TableKey → ℕ → ℕ → Type 0
AreCounted old key labels more = (more ≤ labels) ⊎ ((lookup (is_at (key_cmp key)) old ≡ None) × (more ≤ labels + depth key))

-- sums under one more key are taken
pub IsKept-taken : (rows : List Row) (old new : SumsByKey) (e : Keyed TableKey Sums) (labels more : ℕ) → IsKept rows old labels → Takes old new (e ∷ []) → AreCounted old e.key labels more → IsKept rows new more
IsKept-taken rows old new e labels more is takes count = record { rise = is.rise; kept_rise = rise-taken old new (e ∷ []) is.kept_rise takes; counted = counted count }
  where
    own : KeyedSums
    own = keyed_rows (map row_of old)

    now : labels_in (map row_of new) ≡ labels_in (rows_of (own ++ e ∷ []))
    now = ap labels_in (rows-taken old new (e ∷ []) is.kept_rise takes)

    before : labels_in (rows_of own) ≡ labels_in (map row_of old)
    before = ap labels_in (rows_of-own (map row_of old) is.kept_rise)

    counted : AreCounted old e.key labels more → more ≤ labels_in (map row_of new)
    counted (inl same) = omega (arith, same, is.counted, now, before, labels-before own (e ∷ []))
    counted (inr (none, added)) =
        omega (arith, added, is.counted, now, before, labels-new own e (sym (ap (lookup (is_at (key_cmp e.key))) (summed-own old is.kept_rise)) ∙ none))

-- rows have too many labels if those that were added do
pub labels-full : (rows : List Row) (kept : SumsByKey) (labels : ℕ) → IsKept rows kept labels → most_names < labels → most_names < labels_in (rows_with rows kept)
labels-full rows kept labels is many =
    omega (arith, many, is.counted, ap labels_in (rows_of-own (map row_of kept) is.kept_rise), labels-behind (keyed_rows rows) (keyed_rows (map row_of kept)))

-- rows take them
pub TakesSums-kept : (rows : List Row) (old new : SumsByKey) (key : TableKey) (sums more : Sums) (before : List Row) → RowsRise (map row_of old) → Takes old new (record { key = key; step = sums } ∷ []) → sums ≡ more →
    rows_with rows old ≡ before → TakesSums before (rows_with rows new) (record { key = key; step = more } ∷ [])
TakesSums-kept rows old new key sums more before rise takes same is =
    subst (λ (was : List Row). TakesSums was (rows_with rows new) (record { key = key; step = more } ∷ [])) is
    (TakesSums-added (rows_with rows old) (rows_with rows new) (record { key = key; step = more } ∷ [])
    (rows_with-taken rows old new (record { key = key; step = more } ∷ []) rise (subst (λ (s : Sums). Takes old new (record { key = key; step = s } ∷ [])) same takes)))

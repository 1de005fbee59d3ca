-- Repeated runs with their repetitions in another order, and which keys are counted.
use Rattle.std.specs.{List.{list_any, sum_by, Sorted.IsPermutation}, Prelude.{filter, not, ◌&&◌}}
use Rattle.std.proofs.{Common.{◌≡◌, ℕ, ◌+◌, ◌-◌, ◌/◌, ◌≤◌, Bool, true, false, cond, ◌||◌, List, [], ◌∷◌, ◌++◌, length, get_or, map, refl, sym, ap, ◌∙◌, arith}, lemmas.List.{Sorted.{IsPermutation-append, IsPermutation-map, length_permutation, list_any-IsPermutation, sum_by-IsPermutation}, Sums.{length-filter, sum_by-cons}}}
use Rattle.span_keyed_tracks.proofs.{Keyed.has_key, Sorting.ascending-permutation}
use Rattle.span_table.proofs.{AddedTables.counts-same, Alike.{has_key-append, same_keys}}
use Rattle.span_comparisons.specs.{first_line, unit_line, Number, Row, sums_at, TableKey, key_cmp, shown_line, number_by, is_wanted, SpanTable, Comparison.compared_heads, First.first_lines, Laws.{EachKeyIsCounted, RepetitionsHaveNoOrder, ValuesAreSorted}, Repeats.{overlap_line, side_counts, spread_columns, spread_line}, Spreads.{Spreads, all_keys, apart_spreads, has_same_spread, is_apart, is_overlap, keys_of, overlap_count, same_spread_count, shown_keys, shown_spreads, spread_of, spreads_at, values_at}}
use Rattle.span_comparisons.proofs.{Sorts.{sorted-ends, sorted-moved, sorted-non_decreasing, sorted-permutation}, SpreadOrder.{spread_order-total, spreads-distinct}}

-- sorted values are these values, and don't fall
pub values-sorted : ValuesAreSorted
values-sorted values = record { all = sorted-permutation values; order = sorted-non_decreasing values }

-- values are spread the same in whatever order
spread_of-moved : (values moved : List ℕ) → IsPermutation values moved → spread_of values ≡ spread_of moved
spread_of-moved values moved is =
    let ordered = sorted-moved values moved is in
    let many = sym (length_permutation values moved is) in
    λ i. record { median = get_or (ordered i) ((many i - 1) / 2) 0; least = get_or (ordered i) 0 0; greatest = get_or (ordered i) (many i - 1) 0 }

-- a key is among those of tables where it is among those of one of them
has_key-tables : (k : TableKey) (tables : List SpanTable) → has_key key_cmp k (keys_of tables) ≡ list_any (λ (table : SpanTable). has_key key_cmp k (map (λ (row : Row). row.key) table.rows)) tables
has_key-tables k [] = refl
has_key-tables k (table ∷ tables) =
    let own = map (λ (row : Row). row.key) table.rows in
    has_key-append key_cmp k own (keys_of tables) ∙ ap (λ b. has_key key_cmp k own || b) (has_key-tables k tables)

-- tables have the same keys in whatever order
all_keys-moved : (tables moved : List SpanTable) → IsPermutation tables moved → all_keys tables ≡ all_keys moved
all_keys-moved tables moved is =
    let same : (k : TableKey) → has_key key_cmp k (keys_of tables) ≡ has_key key_cmp k (keys_of moved) =
    λ k. has_key-tables k tables ∙ list_any-IsPermutation (λ (table : SpanTable). has_key key_cmp k (map (λ (row : Row). row.key) table.rows)) tables moved is ∙ sym (has_key-tables k moved) in
    same_keys (keys_of tables) (keys_of moved) (λ k h. sym (same k) ∙ h) (λ k h. same k ∙ h)

side_counts-moved : (tables moved : List SpanTable) → IsPermutation tables moved → side_counts tables ≡ side_counts moved
side_counts-moved tables moved is =
    let counts = λ (table : SpanTable). table.counts in
    counts-same (side_counts tables) (side_counts moved)
    (λ f adds. adds (map counts tables) ∙ sym (sum_by-IsPermutation f (map counts tables) (map counts moved) (IsPermutation-map counts tables moved is)) ∙ sym (adds (map counts moved)))

side-moved : (by : Number) (tables moved : List SpanTable) → IsPermutation tables moved → (key : TableKey) → spread_of (values_at by tables key) ≡ spread_of (values_at by moved key)
side-moved by tables moved is key =
    spread_of-moved (values_at by tables key) (values_at by moved key) (IsPermutation-map (λ (table : SpanTable). number_by by (sums_at table.rows key)) tables moved is)

-- the text of repeated runs is the same for the repetitions of a side in whatever order
pub repeats_of-moved : RepetitionsHaveNoOrder
repeats_of-moved unit by most wanted columns base other moved_base moved_other is_base is_other = λ i.
    first_line ++ (unit_line unit ++ (compared_heads true (side_counts-moved base moved_base is_base i) (side_counts-moved other moved_other is_other i)
    ++ (shown_line wanted (length (shown i)) (length (keys i)) ++ (spread_columns columns ++ (first_lines spread_line most (apart_spreads (shown i)) ++ overlap_line (overlap_count (shown i)) (same_spread_count (shown i)))))))
  where
    keys : all_keys (base ++ other) ≡ all_keys (moved_base ++ moved_other)
    keys = all_keys-moved (base ++ other) (moved_base ++ moved_other) (IsPermutation-append base moved_base other moved_other is_base is_other)

    shown : shown_spreads by wanted base other ≡ shown_spreads by wanted moved_base moved_other
    shown = λ i. map (λ key. record { key = key; base = side-moved by base moved_base is_base key i; other = side-moved by other moved_other is_other key i }) (filter (is_wanted wanted) (keys i))

-- sides that are spread the same are not apart
same-not_apart : (s : Spreads) → s.base.least ≤ s.base.greatest → has_same_spread s ≡ true → is_apart s ≡ false
same-not_apart s order same = grind (arith, order, same)

-- a key is one of the three
abbrev one_if : Bool → ℕ
one_if b = cond b 1 0

counted-once : (s : Spreads) → s.base.least ≤ s.base.greatest → one_if (is_apart s) + (one_if (is_overlap s) + one_if (has_same_spread s)) ≡ 1
counted-once s order = by (is_apart s) (has_same_spread s) (same-not_apart s order)
  where
    by : (apart same : Bool) → (same ≡ true → apart ≡ false) → one_if apart + (one_if (not apart && not same) + one_if same) ≡ 1
    by true true never = absurd (let no = never refl in cc)
    by true false never = refl
    by false true never = refl
    by false false never = refl

-- each key that is shown has its line, overlaps, or is the same
pub keys-counted : EachKeyIsCounted
keys-counted by wanted base other =
    let shown = shown_spreads by wanted base other in
    let rows = filter is_apart shown in
    let lines = length_permutation rows (apart_spreads shown) (ascending-permutation spread_order-total rows (spreads-distinct by wanted base other)) in
    omega (arith, lines, length-filter is_apart shown, each (shown_keys wanted (base ++ other)))
  where
    spreads : List TableKey → List Spreads
    spreads keys = map (spreads_at by base other) keys

    each : (keys : List TableKey) → sum_by (λ s. one_if (is_apart s)) (spreads keys) + (overlap_count (spreads keys) + same_spread_count (spreads keys)) ≡ length (spreads keys)
    each [] = refl
    each (key ∷ keys) =
        let s = spreads_at by base other key in
        let rest = spreads keys in
        let apart = sum_by-cons (λ s. one_if (is_apart s)) s rest in
        let overlap = sum_by-cons (λ s. one_if (is_overlap s)) s rest in
        let same = sum_by-cons (λ s. one_if (has_same_spread s)) s rest in
        omega (arith, apart, overlap, same, counted-once s (sorted-ends (values_at by base key)), each keys)

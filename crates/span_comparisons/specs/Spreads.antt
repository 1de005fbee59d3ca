-- What repeated runs have of each key: on each side a value for each repetition, and how these are spread.
use Rattle.std.specs.{Int.abs_diff, Ordering.{nat_cmp, ordering_then}, Prelude.{ℕ, ◌-◌, ◌/◌, ◌==◌, nat_lt, if◌then◌else◌, Bool, not, ◌&&◌, ◌||◌, List, [], ◌∷◌, ◌++◌, map, flat_map, filter, length, get_or, count_by}, declared.cmp.Ordering.Ordering}
use Rattle.span_comparisons.specs.{ascending, Number, Row, sums_at, number_by, TableKey, key_cmp, Wanted, is_wanted, SpanTable, declared.spreads.Spread.Spread}

-- a number put before the first that isn't less
abbrev pub put_in_order : ℕ → List ℕ → List ℕ
put_in_order n [] = n ∷ []
put_in_order n (m ∷ ms) = if nat_lt m n then m ∷ put_in_order n ms else n ∷ m ∷ ms

-- numbers in ascending order, each as often as before
abbrev pub sorted : List ℕ → List ℕ
sorted [] = []
sorted (n ∷ ns) = put_in_order n (sorted ns)

-- of values in ascending order the middle one, of an even number the lower of both, the first, and the last; zeros where there are none
abbrev pub spread_of : List ℕ → Spread
spread_of values = let ordered = sorted values in record {
  median = get_or ordered ((length values - 1) / 2) 0;
  least = get_or ordered 0 0;
  greatest = get_or ordered (length values - 1) 0;
}

-- what each repetition has of a number under a key; 0 where it lacks the key
abbrev pub values_at : Number → List SpanTable → TableKey → List ℕ
values_at by tables key = map (λ (table : SpanTable). number_by by (sums_at table.rows key)) tables

-- the keys of the rows of tables, as they come
abbrev pub keys_of : List SpanTable → List TableKey
keys_of tables = flat_map (λ (table : SpanTable). map (λ (row : Row). row.key) table.rows) tables

-- each key that a table has, once, in ascending order
abbrev pub all_keys : List SpanTable → List TableKey
all_keys tables = ascending key_cmp (keys_of tables)

-- those that are shown
abbrev pub shown_keys : Wanted → List SpanTable → List TableKey
shown_keys wanted tables = filter (is_wanted wanted) (all_keys tables)

-- a key with how its values are spread on both sides
pub record Spreads : Type 0 where
  pub key : TableKey
  pub base : Spread
  pub other : Spread

abbrev pub spreads_at : Number → List SpanTable → List SpanTable → TableKey → Spreads
spreads_at by base other key = record { key = key; base = spread_of (values_at by base key); other = spread_of (values_at by other key) }

-- each key that is shown with its spreads
abbrev pub shown_spreads : Number → Wanted → List SpanTable → List SpanTable → List Spreads
shown_spreads by wanted base other = map (spreads_at by base other) (shown_keys wanted (base ++ other))

-- the greatest value of one side is below the least of the other
abbrev pub is_apart : Spreads → Bool
is_apart s = nat_lt s.base.greatest s.other.least || nat_lt s.other.greatest s.base.least

-- both sides are spread the same
abbrev pub has_same_spread : Spreads → Bool
has_same_spread s = (s.base.median == s.other.median) && ((s.base.least == s.other.least) && (s.base.greatest == s.other.greatest))

-- neither
abbrev pub is_overlap : Spreads → Bool
is_overlap s = not (is_apart s) && not (has_same_spread s)

-- how far the medians lie apart
abbrev pub median_gap : Spreads → ℕ
median_gap s = abs_diff s.base.median s.other.median

-- the greatest change of the median first, and then by key
abbrev pub spread_order : Spreads → Spreads → Ordering
spread_order a b = ordering_then (nat_cmp (median_gap b) (median_gap a)) (key_cmp a.key b.key)

-- the keys whose sides are apart, in this order
abbrev pub apart_spreads : List Spreads → List Spreads
apart_spreads spreads = ascending spread_order (filter is_apart spreads)

-- how many keys have spreads that overlap, and how many have the same spread on both sides
abbrev pub overlap_count : List Spreads → ℕ
overlap_count spreads = count_by is_overlap spreads

abbrev pub same_spread_count : List Spreads → ℕ
same_spread_count spreads = count_by has_same_spread spreads

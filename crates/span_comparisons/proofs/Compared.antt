-- What is found of the keys of two tables is what is compared.
use Rattle.std.specs.{Cmp.IsTotalOrder, Option.option_map, Prelude.{filter, is_none, unwrap_or}}
use Rattle.std.proofs.{Common.{[], ◌∷◌, ◌≡◌, ◌≤◌, ◌<◌, ℕ, ◌+◌, true, List, Option, Some, None, get_or, length, refl, sym, ap, ◌∙◌, arith}, lemmas.{Cmp.{back_total, nat_cmp_total, on_total, then_total}, List.{Filters.length-filter_both, Sums.{count_by-le-length, length-filter}}}}
use Rattle.span_table.proofs.Searched.{sums_at-found, sums_at-own}
use Rattle.span_comparisons.specs.{Number, Row, found_at, sums_at, key_cmp_total, Wanted, is_wanted, RowsRise, no_sums, Changed.{Classifies, from_other, is_new}, Changes.{Change, by_gap, compared_at, gap_by, gaps_order, is_changed, is_same, same_count, shown_changes}}

by_gap-total : (by : Number) → IsTotalOrder (by_gap by)
by_gap-total by = on_total (gap_by by) (back_total nat_cmp_total)

-- the order by gaps is total
pub gaps_order-total : (numbers : List Number) → IsTotalOrder (gaps_order numbers)
gaps_order-total [] = on_total (λ (c : Change). c.key) key_cmp_total
gaps_order-total (number ∷ numbers) = then_total (by_gap-total number) (gaps_order-total numbers)

-- no more keys are the same than there are
pub Classifies-few : (wanted : Wanted) (keys found : List Change) (unchanged count : ℕ) → Classifies wanted keys found unchanged count → unchanged ≤ count
Classifies-few wanted keys found unchanged count classifies =
    let few = count_by-le-length (λ (c : Change). is_same c.both) (shown_changes wanted keys) in
    let shown = length-filter (λ (c : Change). is_wanted wanted c.key) keys in
    let all = count_by-le-length (λ (c : Change). is_wanted wanted c.key) keys in
    omega (arith, classifies.same, classifies.all, few, shown, all)

-- a key that only the other has is compared so
pub from_other-is : (base other : List Row) → RowsRise base → RowsRise other → (row : Row) (k : ℕ) → k < length other → get_or other k row ≡ row → is_new base row ≡ true → from_other row ≡ compared_at base other row.key
from_other-is base other base_rises other_rises row k low is new =
    let none : no_sums ≡ sums_at base row.key =
    sym (sums_at-found row.key base base_rises ∙ ap (λ o. unwrap_or (option_map (λ (r : Row). r.sums) o) no_sums) (nothing (found_at base row.key) new)) in
    let own = sym (sums_at-own other other_rises row k low is) in
    λ i. record { key = row.key; both = record { base = none i; other = own i } }
  where
    nothing : (o : Option Row) → is_none o ≡ true → o ≡ None
    nothing None h = refl
    nothing (Some r) h = cc

-- each change is one or the other
pub length-changes : (changes : List Change) → length (filter is_changed changes) + same_count changes ≡ length changes
length-changes changes =
    let both : length (filter (λ (c : Change). is_same c.both) changes) + length (filter is_changed changes) ≡ length changes =
    length-filter_both (λ (c : Change). is_same c.both) is_changed (λ c. refl) changes in
    omega (arith, both, length-filter (λ (c : Change). is_same c.both) changes)

-- Two tables compared the other way round.
use Rattle.std.specs.{BTreeSet.insert_key, Cmp.{nat_cmp_is, nat_eq_equiv}, Fmt.decimal, Int.abs_diff, List.{Contains, list_all}, Ordering.{match_ordering, nat_cmp, ordering_then}, Prelude.{codes, filter, fold, not}, declared.cmp.Ordering.{Ordering, TheVariants.{Less, Equal, Greater}}}
use Rattle.std.proofs.{Common.{◌≡◌, ℕ, ◌-◌, List, [], ◌∷◌, ◌++◌, length, map, refl, sym, ap, ap₂, ◌∙◌, add_comm, arith}, lemmas.List.{length-map, Sorted.{Contains-permutation, IsPermutation-append_comm, IsPermutation-map}}}
use Rattle.span_self_time.proofs.Mapped.{filter-map}
use Rattle.span_keyed_tracks.proofs.SameKeys.{ascending-members}
use Rattle.span_journal.proofs.Sorted.{map-map}
use Rattle.span_comparisons.specs.{ascending, Number, Row, number_by, key_cmp_total, key_cmp-same, TableKey, key_cmp, Wanted, is_wanted, Changes.{Change, by_gap, change_order, changes_of, compared, compared_at, gap_by, gaps_order, is_changed, is_same, order_numbers, same_count, shown_changes}, Laws.{ComparisonsTurn, DifferencesTurn, turned}}
use Rattle.span_table.specs.Numbers.{all_numbers}
use Rattle.span_comparisons.proofs.{Compared.length-changes, Permuted.key_of}

keys-turned : (base other : List Row) → ascending key_cmp (map key_of (other ++ base)) ≡ ascending key_cmp (map key_of (base ++ other))
keys-turned base other = ascending-members key_cmp_total key_cmp-same (map key_of (other ++ base)) (map key_of (base ++ other)) (moved other base) (moved base other)
  where
    moved : (xs ys : List Row) (k : TableKey) → Contains (map key_of (xs ++ ys)) k → Contains (map key_of (ys ++ xs)) k
    moved xs ys k = Contains-permutation (map key_of (xs ++ ys)) (map key_of (ys ++ xs)) k (IsPermutation-map key_of (xs ++ ys) (ys ++ xs) (IsPermutation-append_comm xs ys))

compared-turned : (base other : List Row) → compared other base ≡ map turned (compared base other)
compared-turned base other =
    let keys = ascending key_cmp (map key_of (base ++ other)) in
    ap (map (compared_at other base)) (keys-turned base other) ∙ sym (map-map turned (compared_at base other) keys)

shown_changes-turned : (wanted : Wanted) (changes : List Change) → shown_changes wanted (map turned changes) ≡ map turned (shown_changes wanted changes)
shown_changes-turned wanted changes = filter-map (λ (c : Change). is_wanted wanted c.key) turned changes

is_same-turned : (c : Change) → is_same (turned c).both ≡ is_same c.both
is_same-turned c = λ i. list_all (λ number. nat_eq_equiv.symm (number_by number c.both.other) (number_by number c.both.base) i) all_numbers

filter-turned : (changes : List Change) → filter is_changed (map turned changes) ≡ map turned (filter is_changed changes)
filter-turned changes = filter-map is_changed turned changes ∙ (λ i. map turned (filter (λ (c : Change). not (is_same-turned c i)) changes))

gap_by-turned : (by : Number) (c : Change) → gap_by by (turned c) ≡ gap_by by c
gap_by-turned by c = turns (number_by by c.both.base) (number_by by c.both.other)
  where
    turns : (m n : ℕ) → abs_diff n m ≡ abs_diff m n
    turns m n = add_comm (n - m) (m - n)

by_gap-turned : (by : Number) (a b : Change) → by_gap by (turned a) (turned b) ≡ by_gap by a b
by_gap-turned by a b = ap₂ nat_cmp (gap_by-turned by b) (gap_by-turned by a)

gaps_order-turned : (numbers : List Number) (a b : Change) → gaps_order numbers (turned a) (turned b) ≡ gaps_order numbers a b
gaps_order-turned [] a b = refl
gaps_order-turned (number ∷ numbers) a b = λ i. ordering_then (by_gap-turned number a b i) (gaps_order-turned numbers a b i)

-- what a function that an order does not see makes of rows in order
module _ {A B : Type 0} (R : A → A → Ordering) (S : B → B → Ordering) (f : A → B) (same : (x y : A) → S (f x) (f y) ≡ R x y) where
  insert_key-map : (xs : List A) (x : A) → insert_key S (map f xs) (f x) ≡ map f (insert_key R xs x)
  insert_key-map [] x = refl
  insert_key-map (y ∷ ys) x =
      ap₂ (λ (r : Ordering) (rest : List B). match_ordering r (f x ∷ f y ∷ map f ys) (f y ∷ map f ys) (f y ∷ rest)) (same x y) (insert_key-map ys x) ∙ by (R x y)
    where
      by : (r : Ordering) → match_ordering r (f x ∷ f y ∷ map f ys) (f y ∷ map f ys) (f y ∷ map f (insert_key R ys x)) ≡ map f (match_ordering r (x ∷ y ∷ ys) (y ∷ ys) (y ∷ insert_key R ys x))
      by Less = refl
      by Equal = refl
      by Greater = refl

  fold-map : (done xs : List A) → fold (insert_key S) (map f done) (map f xs) ≡ map f (fold (insert_key R) done xs)
  fold-map done [] = refl
  fold-map done (x ∷ xs) = ap (λ d. fold (insert_key S) d (map f xs)) (insert_key-map done x) ∙ fold-map (insert_key R done x) xs

  -- it makes them of the rows in order
  ascending-map : (xs : List A) → ascending S (map f xs) ≡ map f (ascending R xs)
  ascending-map xs = fold-map [] xs

changes_of-turned : (by : Number) (numbers : List Number) (changes : List Change) → changes_of by numbers (map turned changes) ≡ map turned (changes_of by numbers changes)
changes_of-turned by numbers changes =
    let order = change_order by numbers in
    ap (ascending order) (filter-turned changes) ∙ ascending-map order order turned (gaps_order-turned (order_numbers by numbers)) (filter is_changed changes)

same_count-turned : (changes : List Change) → same_count (map turned changes) ≡ same_count changes
same_count-turned changes =
    omega (arith, length-changes changes, length-changes (map turned changes), length-map changes turned, ap length (filter-turned changes), length-map (filter is_changed changes) turned)

-- the other way round the same keys changed, and as many did not
pub comparisons-turned : ComparisonsTurn
comparisons-turned by numbers wanted base other =
    let shown = shown_changes wanted (compared base other) in
    let turns : shown_changes wanted (compared other base) ≡ map turned shown = ap (shown_changes wanted) (compared-turned base other) ∙ shown_changes-turned wanted (compared base other) in
    record { changes = ap (changes_of by numbers) turns ∙ changes_of-turned by numbers shown; same = ap same_count turns ∙ same_count-turned shown }

-- a difference is as great the other way round
pub difference_text-turned : DifferencesTurn
difference_text-turned m n less = (
  ap (λ r. match_ordering r (codes "+" ++ decimal (n - m)) (codes "0") (codes "-" ++ decimal (m - n))) (sym (nat_cmp_is m n Less less)),
  ap (λ r. match_ordering r (codes "+" ++ decimal (m - n)) (codes "0") (codes "-" ++ decimal (n - m))) (sym (nat_cmp_is n m Greater less)),
)

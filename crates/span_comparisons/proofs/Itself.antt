-- A table compared with itself.
use Rattle.std.specs.{List.list_all, Prelude.{filter, flat_map, not}}
use Rattle.std.proofs.{Common.{◌≡◌, ℕ, zero, suc, ◌-◌, take, Bool, Option, Some, None, true, false, cond, ◌&&◌, ◌||◌, ◌==◌, List, [], ◌∷◌, ◌++◌, length, map, refl, sym, ap, ap₂, ◌∙◌, arith, eq-eqb}, lemmas.List.{length-map, map-append}}
use Rattle.span_self_time.proofs.Mapped.{filter-map}
use Rattle.span_keyed_tracks.proofs.Keyed.{has_key}
use Rattle.span_journal.proofs.Sorted.{map-map}
use Rattle.span_table.specs.Numbers.{all_numbers}
use Rattle.span_table.proofs.{Alike.{has_key-append, same_keys}, OwnRows.{ascending-own, keys-sorted}}
use Rattle.span_comparisons.specs.{Bytes, ascending, first_line, unit_line, Number, Sums, Row, number_by, sums_at, key_cmp_total, TableKey, key_cmp, shown_line, Wanted, is_wanted, shown_rows, RowsRise, Changes.{Change, change_order, compared, compared_at, is_changed, is_same, same_count, shown_changes}, Comparison.{change_columns, change_line, compared_heads, same_line}, First.{first_lines, more_line}, Laws.TablesCompareWithThemselves}
use Rattle.span_comparisons.proofs.{Compared.length-changes, Permuted.key_of}

module _ (rows : List Row) where
  -- the keys of two lists of the same rows are those of one
  keys-itself : RowsRise rows → ascending key_cmp (map key_of (rows ++ rows)) ≡ map key_of rows
  keys-itself rise =
      same_keys (map key_of (rows ++ rows)) (map key_of rows) (λ k h. sym (twice k) ∙ h) (λ k h. twice k ∙ h) ∙ ascending-own key_cmp_total (map key_of rows) (keys-sorted rows rise)
    where
      one_of : (a : Bool) → (a || a) ≡ a
      one_of true = refl
      one_of false = refl

      twice : (k : TableKey) → has_key key_cmp k (map key_of (rows ++ rows)) ≡ has_key key_cmp k (map key_of rows)
      twice k = ap (has_key key_cmp k) (map-append key_of rows rows) ∙ has_key-append key_cmp k (map key_of rows) (map key_of rows) ∙ one_of (has_key key_cmp k (map key_of rows))

  abbrev made : Row → Change
  made row = compared_at rows rows row.key

  compared-itself : RowsRise rows → compared rows rows ≡ map made rows
  compared-itself rise = ap (map (compared_at rows rows)) (keys-itself rise) ∙ map-map (compared_at rows rows) key_of rows

  -- the keys that are shown are those of the rows that are
  shown-itself : (wanted : Wanted) → RowsRise rows → shown_changes wanted (compared rows rows) ≡ map made (shown_rows wanted rows)
  shown-itself wanted rise = ap (shown_changes wanted) (compared-itself rise) ∙ filter-map (λ (c : Change). is_wanted wanted c.key) made rows

  same_as_itself : (sums : Sums) → is_same (record { base = sums; other = sums }) ≡ true
  same_as_itself sums = each all_numbers
    where
      each : (numbers : List Number) → list_all (λ number. number_by number sums == number_by number sums) numbers ≡ true
      each [] = refl
      each (n ∷ numbers) = ap₂ (λ a b. a && b) (eq-eqb (number_by n sums) (number_by n sums) refl) (each numbers)

  none_changed : (xs : List Row) → filter is_changed (map made xs) ≡ []
  none_changed [] = refl
  none_changed (x ∷ xs) = ap₂ (λ (b : Bool) (rest : List Change). cond (not b) (made x ∷ rest) rest) (same_as_itself (sums_at rows x.key)) (none_changed xs)

take-none : {A : Type 0} (n : ℕ) → let none : List A = [] in take n none ≡ none
take-none zero = refl
take-none (suc n) = refl

-- of none there is no line, and none is left out
first_lines-none : {A : Type 0} (line : A → Bytes) (most : Option ℕ) → first_lines line most [] ≡ []
unfolding more_line
first_lines-none line None = refl
first_lines-none {A = A} line (Some most) = ap (λ (first : List A). flat_map line first ++ more_line (0 - length first)) (take-none most)

-- nothing changed between a table and itself
pub comparison_of-itself : TablesCompareWithThemselves
comparison_of-itself unit by most wanted says_runs table rise =
    let rows = table.rows in
    let all = compared rows rows in
    let shown = shown_changes wanted all in
    let are = shown-itself rows wanted rise in
    let none : filter is_changed shown ≡ [] = ap (filter is_changed) are ∙ none_changed rows (shown_rows wanted rows) in
    let many : length shown ≡ length (shown_rows wanted rows) = ap length are ∙ length-map (shown_rows wanted rows) (made rows) in
    let every : length all ≡ length rows = ap length (compared-itself rows rise) ∙ length-map rows (made rows) in
    let same : same_count shown ≡ length (shown_rows wanted rows) = omega (arith, length-changes shown, ap length none, many) in
    (λ i. first_line ++ (unit_line unit ++ (compared_heads says_runs table.counts table.counts ++ (shown_line wanted (many i) (every i) ++ (change_columns table.schema ++
    (first_lines (change_line table.schema) most (ascending (change_order by table.schema.numbers) (none i)) ++ same_line (same i)))))))
    ∙ ap (λ lines. first_line ++ (unit_line unit ++ (compared_heads says_runs table.counts table.counts ++ (shown_line wanted (length (shown_rows wanted rows)) (length rows) ++
    (change_columns table.schema ++ (lines ++ same_line (length (shown_rows wanted rows)))))))) (first_lines-none (change_line table.schema) most)

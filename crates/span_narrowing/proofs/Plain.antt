-- Where nothing is narrowed.
use Rattle.std.specs.Prelude.{filter_map}
use Rattle.std.proofs.{Common.{◌≡◌, ◌∙◌, ◌-◌, ◌==◌, Bool, true, false, not, List, [], ◌∷◌, ◌++◌, Some, ap, append-nil, map, arith, length, refl, sym, take, true≢false}, Math.Seq.take-length, lemmas.{Bool.{and_parts, ne_eqb}}}
use Rattle.span_table.proofs.OwnRows.{rows_of-own}
use Rattle.span_narrowing.specs.{Column, KeyedSums, TableKey, keyed_rows, rows_of, Laws.PlainChangesNothing, Narrowed.{is_plain, narrowed, narrowed_key, narrowed_sums, shown_of, summed_by}, declared.{conditions.Condition.Condition, narrowing.Narrowing.Narrowing}}

-- all of a list is before those of no conditions
all-shown : {A : Type 0} (list : List A) → take (length list - 0) list ≡ list
all-shown list = let all : length list - 0 ≡ length list = omega arith in ap (λ n. take n list) all ∙ take-length list

none : (conditions : List Condition) → (length conditions == 0) ≡ true → conditions ≡ []
none [] is = refl
none (condition ∷ conditions) is = absurd (true≢false (sym is ∙ ne_eqb (length (condition ∷ conditions)) 0 (λ same. omega (arith, same))))

module _ (narrowing : Narrowing) (is : is_plain narrowing ≡ true) where
  no-conditions : narrowing.conditions.items ≡ []
  no-conditions = none narrowing.conditions.items (and_parts (length narrowing.conditions.items == 0) (not narrowing.merges) is).0

  no-merges : narrowing.merges ≡ false
  no-merges = by narrowing.merges (and_parts (length narrowing.conditions.items == 0) (not narrowing.merges) is).1
    where
      by : (b : Bool) → not b ≡ true → b ≡ false
      by true e = sym e
      by false e = refl

  -- the columns are those that are shown
  pub summed_by-plain : (columns : List Column) → summed_by columns narrowing ≡ columns
  summed_by-plain columns = ap (λ (conditions : List Condition). columns ++ map (λ (condition : Condition). condition.column) conditions) no-conditions ∙ append-nil columns

  -- keys stay
  narrowed_key-plain : (columns : List Column) (key : TableKey) → narrowed_key narrowing columns key ≡ Some key
  narrowed_key-plain columns key = rw (no-conditions, no-merges) (ap Some (all-shown key))

  -- so do sums under them
  narrowed_sums-plain : (columns : List Column) (sums : KeyedSums) → filter_map (narrowed_sums narrowing columns) sums ≡ sums
  narrowed_sums-plain columns [] = refl
  narrowed_sums-plain columns (own ∷ sums) = rw (narrowed_key-plain columns own.key) (ap (λ l. own ∷ l) (narrowed_sums-plain columns sums))

-- a table stays as it is
pub narrowed-plain : PlainChangesNothing
unfolding narrowed
narrowed-plain narrowing table is rise = λ i. record { schema = record { of = table.schema.of; columns = columns i; numbers = table.schema.numbers }; counts = table.counts; rows = rows i }
  where
    columns : take (shown_of narrowing.conditions.items table.schema.columns) table.schema.columns ≡ table.schema.columns
    columns = ap (λ (conditions : List Condition). take (shown_of conditions table.schema.columns) table.schema.columns) (no-conditions narrowing is) ∙ all-shown table.schema.columns

    rows : rows_of (filter_map (narrowed_sums narrowing table.schema.columns) (keyed_rows table.rows)) ≡ table.rows
    rows = ap rows_of (narrowed_sums-plain narrowing is table.schema.columns (keyed_rows table.rows)) ∙ rows_of-own table.rows rise

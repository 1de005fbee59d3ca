-- Rows in order that are merged are those of both.
use Rattle.std.specs.{List.{AllByRecursion, Sorted.IsStrictlySortedBy}, Option.option_to_list, Ordering.{is_eq, match_ordering, ordering_reverse}, declared.cmp.Ordering.{Ordering, TheVariants.{Less, Equal, Greater}}}
use Rattle.std.proofs.{Common.{◌≡◌, Bool, true, false, ◌||◌, cond, List, [], ◌∷◌, ◌++◌, Option, Some, None, map, refl, sym, ap, subst, ◌∙◌, append_assoc}, lemmas.List.{append-nil}}
use Rattle.span_keyed_tracks.proofs.{Keyed.has_key, SameKeys.step_keys}
use Rattle.span_table.specs.{Keyed, steps_at, Adding.{keyed_row, keyed_rows}, KeyLaws.{key_cmp_total, key_cmp-same}, Keys.{TableKey, key_cmp}, Merging.{heads_cmp, merged, merged_with, with_row_sums}, Sums.with_sums, Tables.{KeyedSums, RowsRise, rows_of, sums_together}, declared.{sums.Sums.Sums, table.Row.Row}}
use Rattle.span_table.proofs.{AddedTables.rows_of-alike, Alike.{AddUpAlike, AddUpAlike-append, AddUpAlike-refl, AddUpAlike-trans, step_keys-append, sums_at-append}, OwnRows.rows_of-own, Tallies.{sums_together-one, sums_together-push, with_sums-turned}}

merged-nil : (rows : List Row) → merged rows [] ≡ rows
merged-nil [] = refl
merged-nil (row ∷ rows) = refl

-- the lesser of the first rows comes first
pub merged-less : (first : Option Row) (rows more : List Row) → heads_cmp (option_to_list first ++ rows) more ≡ Less → merged (option_to_list first ++ rows) more ≡ option_to_list first ++ merged rows more
merged-less None rows more less = refl
merged-less (Some row) rows [] less = ap (λ (l : List Row). row ∷ l) (sym (merged-nil rows))
merged-less (Some row) rows (other ∷ more) less = ap (λ o. match_ordering o (row ∷ merged rows (other ∷ more)) (with_row_sums row other ∷ merged rows more) (other ∷ merged_with row rows (merged rows) more)) less

-- what holds of two lists of which one is empty, and stays with each first row, holds of all that are merged
module _ (Holds : List Row → List Row → List Row → Type 0)
    (none : (more : List Row) → Holds [] more more)
    (others : (row : Row) (rows : List Row) → Holds (row ∷ rows) [] (row ∷ rows))
    (less : (row : Row) (rows : List Row) (other : Row) (more all : List Row) → key_cmp row.key other.key ≡ Less → Holds rows (other ∷ more) all → Holds (row ∷ rows) (other ∷ more) (row ∷ all))
    (equal : (row : Row) (rows : List Row) (other : Row) (more all : List Row) → key_cmp row.key other.key ≡ Equal → Holds rows more all → Holds (row ∷ rows) (other ∷ more) (with_row_sums row other ∷ all))
    (greater : (row : Row) (rows : List Row) (other : Row) (more all : List Row) → key_cmp row.key other.key ≡ Greater → Holds (row ∷ rows) more all → Holds (row ∷ rows) (other ∷ more) (other ∷ all)) where
  holds-with : (row : Row) (rows : List Row) → ((more : List Row) → Holds rows more (merged rows more)) → (more : List Row) → Holds (row ∷ rows) more (merged_with row rows (merged rows) more)
  holds-with row rows behind [] = others row rows
  holds-with row rows behind (other ∷ more) = by (key_cmp row.key other.key) refl (holds-with row rows behind more)
    where
      by : (o : Ordering) → key_cmp row.key other.key ≡ o → Holds (row ∷ rows) more (merged_with row rows (merged rows) more) →
          Holds (row ∷ rows) (other ∷ more) (match_ordering o (row ∷ merged rows (other ∷ more)) (with_row_sums row other ∷ merged rows more) (other ∷ merged_with row rows (merged rows) more))
      by Less is rest = less row rows other more (merged rows (other ∷ more)) is (behind (other ∷ more))
      by Equal is rest = equal row rows other more (merged rows more) is (behind more)
      by Greater is rest = greater row rows other more (merged_with row rows (merged rows) more) is rest

  holds-merged : (rows more : List Row) → Holds rows more (merged rows more)
  holds-merged [] more = none more
  holds-merged (row ∷ rows) more = holds-with row rows (holds-merged rows) more

-- all of these have greater keys
abbrev Above : TableKey → List Row → Type 0
Above key rows = AllByRecursion (λ (row : Row). key_cmp key row.key ≡ Less) rows

above-above : (low key : TableKey) (rows : List Row) → key_cmp low key ≡ Less → Above key rows → Above low rows
above-above low key [] less above = tt
above-above low key (row ∷ rows) less above = (key_cmp_total.trans low key row.key less above.0, above-above low key rows less above.1)

-- rows that rise still do
RowsRise-merged : (rows more : List Row) → RowsRise rows → RowsRise more → RowsRise (merged rows more)
unfolding IsStrictlySortedBy
RowsRise-merged rows more rise others = (holds-merged Rise
    (λ more mine its. (its, λ key low high. high))
    (λ row rows mine its. (mine, λ key low high. low))
    (λ row rows other more all is rest mine its.
    let later = rest mine.1 its in
    ((later.1 row.key mine.0 (is, above-above row.key other.key more is its.0), later.0), λ key low high. (low.0, later.1 key low.1 high)))
    (λ row rows other more all is rest mine its.
    let later = rest mine.1 its.1 in
    let same : row.key ≡ other.key = key_cmp-same row.key other.key is in
    ((later.1 row.key mine.0 (subst (λ k. Above k more) (sym same) its.0), later.0), λ key low high. (low.0, later.1 key low.1 high.1)))
    (λ row rows other more all is rest mine its.
    let later = rest mine its.1 in
    let less : key_cmp other.key row.key ≡ Less = key_cmp_total.antisymm other.key row.key ∙ ap ordering_reverse is in
    ((later.1 other.key (less, above-above other.key row.key rows less mine.0) its.0, later.0), λ key low high. (high.0, later.1 key low high.1)))
    rows more rise others).0
  where
    -- they rise, and are above what both are above
    Rise : List Row → List Row → List Row → Type 0
    Rise rows more all = RowsRise rows → RowsRise more → RowsRise all × ((key : TableKey) → Above key rows → Above key more → Above key all)

-- lists of sums in either order
AddUpAlike-turned : (es fs : KeyedSums) → AddUpAlike (es ++ fs) (fs ++ es)
AddUpAlike-turned es fs = record { there = within es fs; back = within fs es; sums = λ k. sums_at-append k es fs ∙ with_sums-turned (sums_together (steps_at key_cmp k es)) (sums_together (steps_at key_cmp k fs)) ∙ sym (sums_at-append k fs es) }
  where
    or-turned : (a b : Bool) → (a || b) ≡ (b || a)
    or-turned true true = refl
    or-turned true false = refl
    or-turned false true = refl
    or-turned false false = refl

    within : (es fs : KeyedSums) (k : TableKey) → has_key key_cmp k (step_keys (es ++ fs)) ≡ true → has_key key_cmp k (step_keys (fs ++ es)) ≡ true
    within es fs k h = step_keys-append k fs es ∙ or-turned (has_key key_cmp k (step_keys fs)) (has_key key_cmp k (step_keys es)) ∙ sym (step_keys-append k es fs) ∙ h

-- one of them moved to the front
AddUpAlike-moved : (e : Keyed TableKey Sums) (es fs : KeyedSums) → AddUpAlike (e ∷ (es ++ fs)) (es ++ e ∷ fs)
AddUpAlike-moved e es fs = subst (AddUpAlike (e ∷ (es ++ fs))) (append_assoc es (e ∷ []) fs) (AddUpAlike-append (e ∷ es) fs (es ++ e ∷ []) fs (AddUpAlike-turned (e ∷ []) es) (AddUpAlike-refl fs))

-- two of one key, and both added
AddUpAlike-added : (key : TableKey) (a b : Sums) → AddUpAlike (record { key = key; step = with_sums a b } ∷ []) (record { key = key; step = a } ∷ record { key = key; step = b } ∷ [])
AddUpAlike-added key a b = record {
  there = λ k h. once (is_eq (key_cmp k key)) h;
  back = λ k h. twice (is_eq (key_cmp k key)) h;
  sums = λ k. sums (is_eq (key_cmp key k));
}
  where
    once : (here : Bool) → (here || false) ≡ true → (here || (here || false)) ≡ true
    once true h = refl
    once false h = h

    twice : (here : Bool) → (here || (here || false)) ≡ true → (here || false) ≡ true
    twice true h = refl
    twice false h = h

    one : Sums → Keyed TableKey Sums
    one sums = record { key = key; step = sums }

    steps : KeyedSums → List Sums
    steps es = map (λ (e : Keyed TableKey Sums). e.step) es

    sums : (here : Bool) → sums_together (steps (cond here (one (with_sums a b) ∷ []) [])) ≡ sums_together (steps (cond here (one a ∷ cond here (one b ∷ []) []) (cond here (one b ∷ []) [])))
    sums true = sums_together-one (with_sums a b) ∙ ap (λ s. with_sums s b) (sym (sums_together-one a)) ∙ sym (sums_together-push (a ∷ []) b)
    sums false = refl

-- merged rows add up as both
AddUpAlike-merged : (rows more : List Row) → AddUpAlike (keyed_rows (merged rows more)) (keyed_rows rows ++ keyed_rows more)
AddUpAlike-merged = holds-merged (λ rows more all. AddUpAlike (keyed_rows all) (keyed_rows rows ++ keyed_rows more))
    (λ more. AddUpAlike-refl (keyed_rows more))
    (λ row rows. subst (AddUpAlike (keyed_rows (row ∷ rows))) (sym (append-nil (keyed_rows (row ∷ rows)))) (AddUpAlike-refl (keyed_rows (row ∷ rows))))
    (λ row rows other more all is rest. behind (keyed_row row) (keyed_rows all) (keyed_rows rows ++ keyed_rows (other ∷ more)) rest)
    (λ row rows other more all is rest.
    let both = keyed_row row ∷ keyed_row other ∷ [] in
    let same : with_key row.key other ≡ keyed_row other = ap (λ k. with_key k other) (key_cmp-same row.key other.key is) in
    AddUpAlike-trans (keyed_row (with_row_sums row other) ∷ keyed_rows all) (both ++ (keyed_rows rows ++ keyed_rows more)) (keyed_row row ∷ (keyed_rows rows ++ keyed_row other ∷ keyed_rows more))
    (AddUpAlike-append (keyed_row (with_row_sums row other) ∷ []) (keyed_rows all) both (keyed_rows rows ++ keyed_rows more)
    (subst (λ (e : Entry). AddUpAlike (keyed_row (with_row_sums row other) ∷ []) (keyed_row row ∷ e ∷ [])) same (AddUpAlike-added row.key row.sums other.sums)) rest)
    (behind (keyed_row row) (keyed_row other ∷ (keyed_rows rows ++ keyed_rows more)) (keyed_rows rows ++ keyed_row other ∷ keyed_rows more) (AddUpAlike-moved (keyed_row other) (keyed_rows rows) (keyed_rows more))))
    (λ row rows other more all is rest.
    AddUpAlike-trans (keyed_row other ∷ keyed_rows all) (keyed_row other ∷ (keyed_rows (row ∷ rows) ++ keyed_rows more)) (keyed_rows (row ∷ rows) ++ keyed_row other ∷ keyed_rows more)
    (behind (keyed_row other) (keyed_rows all) (keyed_rows (row ∷ rows) ++ keyed_rows more) rest)
    (AddUpAlike-moved (keyed_row other) (keyed_rows (row ∷ rows)) (keyed_rows more)))
  where
    Entry : Type 0
    Entry = Keyed TableKey Sums

    with_key : TableKey → Row → Entry
    with_key key row = record { key = key; step = row.sums }

    behind : (e : Entry) (es fs : KeyedSums) → AddUpAlike es fs → AddUpAlike (e ∷ es) (e ∷ fs)
    behind e es fs alike = AddUpAlike-append (e ∷ []) es (e ∷ []) fs (AddUpAlike-refl (e ∷ [])) alike

-- merged rows are the rows of both
pub merged-rows_of : (rows more : List Row) → RowsRise rows → RowsRise more → merged rows more ≡ rows_of (keyed_rows rows ++ keyed_rows more)
merged-rows_of rows more rise others =
    sym (rows_of-own (merged rows more) (RowsRise-merged rows more rise others))
    ∙ rows_of-alike (keyed_rows (merged rows more)) (keyed_rows rows ++ keyed_rows more) (AddUpAlike-merged rows more)

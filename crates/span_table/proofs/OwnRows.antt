-- Rows that rise are the rows of their own sums; so by process, thread and name a table has the rows of spans.
use Rattle.std.specs.{BTreeSet.insert_key, Cmp.IsTotalOrder, List.{AllByRecursion, Sorted.IsStrictlySortedBy}, Ordering.{match_ordering, ordering_reverse, ordering_then, int_cmp}, Prelude.fold, declared.cmp.Ordering.{Ordering, TheVariants.{Less, Equal}}}
use Rattle.std.proofs.{Common.{◌≡◌, List, [], ◌∷◌, ◌++◌, get_or, map, refl, sym, ap, ap₂, subst, ◌∙◌, append_assoc}, lemmas.List.{append-nil, get_or_default, Elements.recursion_from_All}}
use Rattle.span_journal.proofs.Sorted.{map-map}
use Rattle.span_ledger.proofs.RowOrder.{span_rows-sorted}
use Rattle.span_table.specs.{text_cmp, ascending, entry_of, SpanRow, span_order, span_rows, Adding.{keyed_row, keyed_rows}, KeyLaws.key_cmp_total, Keys.key_cmp, Laws.{RowsAreSpanRows, of_span_row, row_columns}, RowSearch.sums_at, Collected.{keyed_span_row, row_sums}, Numbers.usual_numbers, Tables.{RowsRise, row_of, rows_of, span_sums, with_only}, declared.{audience.Audience.TheVariants.Programs, of.Of.TheVariants.Spans, table.Row.Row}}
use Rattle.span_table.proofs.{Alike.summed-alike, ByName.row_sums-only, Searched.sums_at-own}

module _ {K : Type 0} {R : K → K → Ordering} (o : IsTotalOrder R) where
  insert_key-last : (done : List K) (k : K) (ks : List K) → IsStrictlySortedBy R (done ++ k ∷ ks) → insert_key R done k ≡ done ++ k ∷ []
  unfolding IsStrictlySortedBy
  insert_key-last [] k ks sorted = refl
  insert_key-last (x ∷ done) k ks sorted =
      ap (λ r. match_ordering r (k ∷ x ∷ done) (x ∷ done) (x ∷ insert_key R done k)) (o.antisymm k x ∙ ap ordering_reverse (among done sorted.0))
      ∙ ap (λ l. x ∷ l) (insert_key-last done k ks sorted.1)
    where
      among : (ys : List K) → AllByRecursion (λ y. R x y ≡ Less) (ys ++ k ∷ ks) → R x k ≡ Less
      among [] all = all.0
      among (y ∷ ys) all = among ys all.1

  fold-last : (done ks : List K) → IsStrictlySortedBy R (done ++ ks) → fold (insert_key R) done ks ≡ done ++ ks
  fold-last done [] sorted = sym (append-nil done)
  fold-last done (k ∷ ks) sorted =
      ap (λ d. fold (insert_key R) d ks) (insert_key-last done k ks sorted)
      ∙ fold-last (done ++ k ∷ []) ks (subst (IsStrictlySortedBy R) (sym (append_assoc done (k ∷ []) ks)) sorted) ∙ append_assoc done (k ∷ []) ks

  -- sorted keys are in ascending order
  pub ascending-own : (ks : List K) → IsStrictlySortedBy R ks → ascending R ks ≡ ks
  ascending-own ks sorted = fold-last [] ks sorted

pub keys-sorted : (rows : List Row) → RowsRise rows → IsStrictlySortedBy key_cmp (map (λ (row : Row). row.key) rows)
unfolding IsStrictlySortedBy
keys-sorted [] rise = tt
keys-sorted (row ∷ rows) rise = (below rows rise.0, keys-sorted rows rise.1)
  where
    below : (rs : List Row) → AllByRecursion (λ (r : Row). key_cmp row.key r.key ≡ Less) rs → AllByRecursion (λ k. key_cmp row.key k ≡ Less) (map (λ (r : Row). r.key) rs)
    below [] all = tt
    below (r ∷ rs) all = (all.0, below rs all.1)

-- rows that rise are those of their sums
pub rows_of-own : (rows : List Row) → RowsRise rows → rows_of (keyed_rows rows) ≡ rows
rows_of-own rows rise =
    ap (λ keys. map row_of (map (entry_of (sums_at rows)) (ascending key_cmp keys))) (map-map (λ e. e.key) keyed_row rows)
    ∙ ap (λ keys. map row_of (map (entry_of (sums_at rows)) keys)) (ascending-own key_cmp_total (map (λ (row : Row). row.key) rows) (keys-sorted rows rise))
    ∙ each rows (recursion_from_All (λ (row : Row). sums_at rows row.key ≡ row.sums) rows (λ k d low. sums_at-own rows rise (get_or rows k d) k low (get_or_default rows k (get_or rows k d) d low)))
  where
    each : (rs : List Row) → AllByRecursion (λ (row : Row). sums_at rows row.key ≡ row.sums) rs → map row_of (map (entry_of (sums_at rows)) (map (λ (row : Row). row.key) rs)) ≡ rs
    each [] all = refl
    each (r ∷ rs) all = ap₂ (λ sums (l : List Row). record { key = r.key; sums = sums } ∷ l) all.0 (each rs all.1)

-- the keys of rows of spans are in the order of these
key_cmp-span_order : (a b : SpanRow) → key_cmp (of_span_row a).key (of_span_row b).key ≡ span_order a b
key_cmp-span_order a b = by (int_cmp a.pid b.pid) (int_cmp a.tid b.tid) (text_cmp a.name b.name)
  where
    by : (x y z : Ordering) → ordering_then (ordering_then x Equal) (ordering_then (ordering_then y Equal) (ordering_then z Equal)) ≡ ordering_then (ordering_then x y) z
    by Equal Equal Less = refl
    by x y z = refl

span_rows-rise : (rows : List SpanRow) → IsStrictlySortedBy span_order rows → RowsRise (map of_span_row rows)
unfolding IsStrictlySortedBy
span_rows-rise [] sorted = tt
span_rows-rise (row ∷ rows) sorted = (below rows sorted.0, span_rows-rise rows sorted.1)
  where
    below : (rs : List SpanRow) → AllByRecursion (λ r. span_order row r ≡ Less) rs → AllByRecursion (λ (r : Row). key_cmp (of_span_row row).key r.key ≡ Less) (map of_span_row rs)
    below [] all = tt
    below (r ∷ rs) all = (key_cmp-span_order row r ∙ all.0, below rs all.1)

-- by process, thread and name a table has the rows of spans
pub rows-are_span_rows : RowsAreSpanRows
rows-are_span_rows run =
    let rows = map of_span_row (span_rows run.journal) in
    let numbers = usual_numbers Programs Spans in
    ap rows_of (append-nil (map (with_only numbers) (span_sums row_columns run)))
    ∙ ap (map row_of) (sym (summed-alike (map (with_only numbers) (row_sums row_columns run)) (map (with_only numbers) (span_sums row_columns run)) (row_sums-only row_columns run refl numbers refl)))
    ∙ ap rows_of (map-map (with_only numbers) (keyed_span_row row_columns run) (span_rows run.journal) ∙ sym (map-map keyed_row of_span_row (span_rows run.journal)))
    ∙ rows_of-own rows (span_rows-rise (span_rows run.journal) (span_rows-sorted run.journal))

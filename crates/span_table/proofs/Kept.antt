-- What is kept of runs and of rows, once more is added.
use Rattle.std.specs.{List.Sorted.IsStrictlySortedBy, Prelude.{OnOk, Result, Ok, Err}, declared.alloc.AllocError.AllocError}
use Rattle.std.proofs.{Common.{◌≡◌, ℕ, ◌+◌, ◌^◌, ◌<◌, List, [], ◌∷◌, ◌++◌, append-nil, append_assoc, length-append, map, refl, sym, ap, ap₂, subst, ◌∙◌, arith}}
use Rattle.span_table.specs.{Adding.{JoinsRuns, TakesRuns, SummedTable, add_tables, keyed_rows, with_run}, Collected.Takes, Columns.Run, Kept.{IsSummed, rows_with}, Keys.TableKey, Tables.{KeyedSums, RowsRise, Schema, SpanTable, SumsByKey, counts_of, counts_together, row_of, rows_of, summed, table_of}, declared.{counts.TableCounts.TableCounts, sums.Sums.Sums, table.Row.Row}}
use Rattle.span_table.proofs.{AddedTables.{add_tables-table_of, counts-same, rows-behind, rows-then}, Alike.{AddUpAlike, AddUpAlike-append, AddUpAlike-refl, summed-alike}, OwnRows.rows_of-own, Rows.RowsRise-rows_of}

-- what is kept is what its own rows come to
pub summed-own : (kept : SumsByKey) → RowsRise (map row_of kept) → kept ≡ summed (keyed_rows (map row_of kept))
summed-own kept rise = sym (back kept) ∙ ap (map entry) (sym (rows_of-own (map row_of kept) rise)) ∙ back (summed (keyed_rows (map row_of kept)))
  where
    entry : Row → TableKey × Sums
    entry row = (row.key, row.sums)

    back : (es : SumsByKey) → map entry (map row_of es) ≡ es
    back [] = refl
    back (e ∷ es) = ap (λ l. e ∷ l) (back es)

-- the rows of what is kept once sums are taken
pub rows-taken : (old new : SumsByKey) (more : KeyedSums) → RowsRise (map row_of old) → Takes old new more → map row_of new ≡ rows_of (keyed_rows (map row_of old) ++ more)
rows-taken old new more rise takes = ap (map row_of) (takes.sums (keyed_rows (map row_of old)) (summed-own old rise))

-- keys still rise
pub rise-taken : (old new : SumsByKey) (more : KeyedSums) → RowsRise (map row_of old) → Takes old new more → RowsRise (map row_of new)
rise-taken old new more rise takes = subst RowsRise (sym (rows-taken old new more rise takes)) (RowsRise-rows_of (keyed_rows (map row_of old) ++ more))

-- the counts of one table, added, are these
pub counts_together-one : (a : TableCounts) → counts_together (a ∷ []) ≡ a
counts_together-one a = counts-same (counts_together (a ∷ [])) a (λ f adds. adds (a ∷ []) ∙ none-before (f a))
  where
    none-before : (n : ℕ) → 0 + n ≡ n
    none-before n = omega arith

-- sums that are taken are behind all that there was
pub rows_with-taken : (rows : List Row) (old new : SumsByKey) (more : KeyedSums) → RowsRise (map row_of old) → Takes old new more → rows_with rows new ≡ rows_of (keyed_rows (rows_with rows old) ++ more)
rows_with-taken rows old new more rise takes =
    let mine = keyed_rows rows in
    let kept = keyed_rows (map row_of old) in
    ap (λ (l : List Row). rows_of (mine ++ keyed_rows l)) (rows-taken old new more rise takes)
    ∙ rows-behind mine (kept ++ more) ∙ ap rows_of (sym (append_assoc mine kept more)) ∙ sym (rows-then (mine ++ kept) more)

-- so are those of a run
pub rows_with-run : (rows : List Row) (old new : SumsByKey) (more : KeyedSums) → RowsRise (map row_of old) → Takes old new more → rows_with rows new ≡ rows_of (keyed_rows (rows_with rows old) ++ (keyed_rows (rows_of (more ++ [])) ++ []))
rows_with-run rows old new more rise takes =
    let mine = keyed_rows (rows_with rows old) in
    rows_with-taken rows old new more rise takes ∙ ap (λ l. rows_of (mine ++ l)) (sym (append-nil more)) ∙ sym (rows-behind mine (more ++ []))
    ∙ ap (λ l. rows_of (mine ++ l)) (sym (append-nil (keyed_rows (rows_of (more ++ [])))))

-- rows of sums, with nothing added since
pub rows_with-none : (sums : KeyedSums) → rows_with (rows_of sums) [] ≡ rows_of sums
rows_with-none sums = rows-then sums [] ∙ ap rows_of (append-nil sums)

-- where all were added since, they are those of what is kept
pub rows_with-kept : (rows : List Row) (kept : SumsByKey) → rows ≡ [] → RowsRise (map row_of kept) → rows_with rows kept ≡ map row_of kept
rows_with-kept rows kept none rise = ap (λ (l : List Row). rows_with l kept) none ∙ rows_of-own (map row_of kept) rise

-- rows of two sums, of which all those of the other are taken
pub rows_with-all : (mine its : List Row) (old new more : SumsByKey) → its ≡ [] → RowsRise (map row_of old) → RowsRise (map row_of more) → Takes old new (keyed_rows (map row_of more)) →
    rows_with mine new ≡ rows_of (keyed_rows (rows_with mine old) ++ (keyed_rows (rows_with its more) ++ []))
rows_with-all mine its old new more none rise its_rise takes =
    rows_with-taken mine old new (keyed_rows (map row_of more)) rise takes
    ∙ ap (λ l. rows_of (keyed_rows (rows_with mine old) ++ l)) (ap keyed_rows (sym (rows_with-kept its more none its_rise)) ∙ sym (append-nil (keyed_rows (rows_with its more))))

-- rows of two sums in order, with nothing added since
pub rows_with-joined : (mine its rows more all : List Row) (kept : SumsByKey) → rows ≡ mine → more ≡ its → all ≡ rows_of (keyed_rows rows ++ keyed_rows more) → kept ≡ [] → rows_with all kept ≡ rows_of (keyed_rows mine ++ (keyed_rows its ++ []))
rows_with-joined mine its rows more all kept one other is none =
    ap₂ rows_with is none ∙ rows_with-none (keyed_rows rows ++ keyed_rows more)
    ∙ ap₂ (λ (a b : List Row). rows_of (keyed_rows a ++ keyed_rows b)) one other ∙ ap (λ l. rows_of (keyed_rows mine ++ l)) (sym (append-nil (keyed_rows its)))

-- the counts of a run are those of its table
pub counts-run : (counts : TableCounts) (run : Run) → counts_together (counts ∷ counts_of run ∷ []) ≡ counts_together (counts ∷ counts_together (counts_of run ∷ []) ∷ [])
counts-run counts run = ap (λ (more : TableCounts). counts_together (counts ∷ more ∷ [])) (sym (counts_together-one (counts_of run)))

-- a table of some runs, with one more
pub with_run-runs : (schema : Schema) (runs : List Run) (run : Run) → with_run (table_of schema runs) run ≡ table_of schema (runs ++ run ∷ [])
with_run-runs schema runs run = add_tables-table_of schema (runs ∷ (run ∷ []) ∷ [])

-- the sum of some runs takes one more
pub TakesRuns-run : (old new : SummedTable) (run : Run) → new.table ≡ with_run old.table run → new.parts ≡ old.parts + 1 → TakesRuns old (run ∷ []) new
TakesRuns-run old new run added parts = λ schema runs is. record {
  table = added ∙ ap (λ t. with_run t run) is.table ∙ with_run-runs schema runs run;
  parts = omega (arith, parts, is.parts, length-append runs (run ∷ []));
}

-- sums of some runs each, added
pub JoinsRuns-added : (one other both : SummedTable) → both.table ≡ add_tables one.table.schema (one.table ∷ other.table ∷ []) → both.parts ≡ one.parts + other.parts → JoinsRuns one other both
JoinsRuns-added one other both added parts = λ schema runs others first second. record {
  table = added ∙ ap₂ (λ (a b : SpanTable). add_tables a.schema (a ∷ b ∷ [])) first.table second.table ∙ add_tables-table_of schema (runs ∷ others ∷ []) ∙ ap (λ l. table_of schema (runs ++ l)) (append-nil others);
  parts = omega (arith, parts, first.parts, second.parts, length-append runs others);
}

-- sums that are taken after others are taken behind them
pub Takes-then : (old mid new : SumsByKey) (first second : KeyedSums) → Takes old mid first → Takes mid new second → Takes old new (first ++ second)
Takes-then old mid new first second one other = record { sums = λ sums is. other.sums (sums ++ first) (one.sums sums is) ∙ ap summed (append_assoc sums first second) }

-- none changes nothing
pub Takes-none : (kept : SumsByKey) → Takes kept kept []
Takes-none kept = record { sums = λ sums is. is ∙ ap summed (sym (append-nil sums)) }

-- sums that add up alike are taken alike
pub Takes-same : (old new : SumsByKey) (es fs : KeyedSums) → AddUpAlike es fs → Takes old new es → Takes old new fs
Takes-same old new es fs alike takes = record { sums = λ sums kept. takes.sums sums kept ∙ summed-alike (sums ++ es) (sums ++ fs) (AddUpAlike-append sums es sums fs (AddUpAlike-refl sums) alike) }

pub Takes-alike : (result : Result (Unit {0}) AllocError) (old new : SumsByKey) (es fs : KeyedSums) → AddUpAlike es fs → OnOk result (Takes old new es) → OnOk result (Takes old new fs)
Takes-alike (Ok done) old new es fs alike takes = Takes-same old new es fs alike takes
Takes-alike (Err error) old new es fs alike takes = tt

-- all rows in order
pub IsSummed-rows : (parts : ℕ) (rows : List Row) → parts < 2 ^ 32 → RowsRise rows → IsSummed parts rows []
unfolding IsStrictlySortedBy
IsSummed-rows parts rows few rise = record { few = few; rise = rise; kept_rise = tt }

-- more sums are taken, of so many parts
pub IsSummed-taken : (parts : ℕ) (rows : List Row) (old new : SumsByKey) (more : KeyedSums) → parts < 2 ^ 32 → RowsRise rows → RowsRise (map row_of old) → Takes old new more → IsSummed parts rows new
IsSummed-taken parts rows old new more few rise kept_rise takes = record { few = few; rise = rise; kept_rise = rise-taken old new more kept_rise takes }

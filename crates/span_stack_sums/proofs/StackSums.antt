-- The stacks of runs, one more, those of two lists, and those of runs that are alike.
use Rattle.std.specs.Prelude.{flat_map}
use Rattle.std.proofs.{Common.{◌≡◌, ℕ, ◌+◌, List, [], ◌∷◌, ◌++◌, append-nil, length-append, map, Option, Some, None, refl, sym, ap, ap₂, subst, ◌∙◌, arith}, lemmas.Grind.flat_map-append}
use Rattle.span_report.proofs.StackLemmas.SameStacks.{stacks-alike}
use Rattle.span_table.proofs.{AddedTables.{rows-behind, rows-then}, SameTables.{holder_name-alike, thread_keys-alike}}
use Rattle.span_stack_sums.specs.{AreAlikeRuns, KeyedSums, Row, Run, SpanColumn, Thread, keyed_rows, rows_of, Stacks.{IsEmpty, IsStackSum, JoinsSums, Stands, SummedStacks, TakesJournal, journal_sums, keyed_stack, thread_sums}}
use Rattle.span_stack_sums.proofs.Labels.{labels-before, labels-behind}

module _ (columns : List SpanColumn) where
  -- the sums of a run
  abbrev of_run : Run → KeyedSums
  of_run run = journal_sums columns run.journal

  journal_sums-alike : (run other : Run) → AreAlikeRuns run other → of_run run ≡ of_run other
  journal_sums-alike run other alike = λ i. flat_map (λ thread. of_thread thread i) (thread_keys-alike run other alike i)
    where
      of_thread : (thread : Thread) → thread_sums columns run.journal thread ≡ thread_sums columns other.journal thread
      of_thread thread = λ i. map (keyed_stack (holder_name-alike run other alike thread.pid None i) (holder_name-alike run other alike thread.pid (Some thread.tid) i)) ((stacks-alike run.journal other.journal alike.journals).stacks columns thread i)

  -- no runs
  pub IsStackSum-none : (sum : SummedStacks) → IsEmpty sum → IsStackSum columns [] sum
  IsStackSum-none sum none = record { rows = subst (λ (rows : Option (List Row)). Stands rows []) (sym none.rows) refl; parts = none.parts }

  -- one run more, or one that is alike
  pub IsStackSum-taken : (runs : List Run) (run other : Run) (old new : SummedStacks) → AreAlikeRuns run other → TakesJournal columns run.journal old new → IsStackSum columns runs old → IsStackSum columns (runs ++ other ∷ []) new
  IsStackSum-taken runs run other old new alike takes is = record {
    rows = subst (Stands new.rows)
        (ap (λ es. flat_map of_run runs ++ es) (journal_sums-alike run other alike ∙ sym (append-nil (of_run other))) ∙ sym (flat_map-append of_run runs (other ∷ [])))
        (takes.rows (flat_map of_run runs) is.rows);
    parts = takes.parts ∙ ap (λ n. n + 1) is.parts ∙ sym (length-append runs (other ∷ []));
  }

  -- those of two lists of runs
  pub IsStackSum-joined : (runs others : List Run) (one other both : SummedStacks) → JoinsSums one other both → IsStackSum columns runs one → IsStackSum columns others other → IsStackSum columns (runs ++ others) both
  IsStackSum-joined runs others one other both joins is are = record {
    rows = subst (Stands both.rows) (sym (flat_map-append of_run runs others)) (joins.rows (flat_map of_run runs) (flat_map of_run others) is.rows are.rows);
    parts = joins.parts ∙ ap₂ (λ m n. m + n) is.parts are.parts ∙ sym (length-append runs others);
  }

-- too many labels stay too many
pub JoinsSums-none : (other : Option (List Row)) (m n : ℕ) → JoinsSums (record { rows = None; parts = m }) (record { rows = other; parts = n }) (record { rows = None; parts = m + n })
JoinsSums-none other m n = record { rows = λ sums more many its. omega (arith, many, labels-before sums more); parts = refl }

pub JoinsSums-behind : (mine : List Row) (m n : ℕ) → JoinsSums (record { rows = Some mine; parts = m }) (record { rows = None; parts = n }) (record { rows = None; parts = m + n })
JoinsSums-behind mine m n = record { rows = λ sums more own many. omega (arith, many, labels-behind sums more); parts = refl }

-- rows of both are added
pub JoinsSums-both : (mine its both : List Row) (m n : ℕ) → both ≡ rows_of (keyed_rows mine ++ keyed_rows its) → JoinsSums (record { rows = Some mine; parts = m }) (record { rows = Some its; parts = n }) (record { rows = Some both; parts = m + n })
JoinsSums-both mine its both m n is = record {
  rows = λ sums more one other. is ∙ ap₂ (λ rows others. rows_of (keyed_rows rows ++ keyed_rows others)) one other ∙ rows-then sums (keyed_rows (rows_of more)) ∙ rows-behind sums more;
  parts = refl;
}

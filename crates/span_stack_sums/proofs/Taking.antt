-- Rows of sums that take more.
use Rattle.std.specs.Prelude.{flat_map}
use Rattle.std.proofs.Common.{◌≡◌, ◌<◌, ◌≤◌, ℕ, zero, suc, List, [], ◌∷◌, ◌++◌, append-nil, append_assoc, map, refl, sym, ap, subst, ◌∙◌, arith}
use Rattle.span_journal.specs.Rows.{thread_row}
use Rattle.span_table.proofs.AddedTables.{rows-then}
use Rattle.span_stack_sums.specs.{Entry, KeyedSums, Row, SpanColumn, Stack, Thread, ThreadRow, Value, folded_if, keyed_rows, most_names, rows_of, thread_of_row, Kept.{Exceeds, TakesSums}, Stacks.{keyed_stack, label_values, thread_sums, ticks_alone}, Text.labels_in}
use Rattle.span_stack_sums.proofs.Labels.{labels-before}

-- the stacks of the thread of a row
abbrev pub of_row : List SpanColumn → List Entry → ThreadRow → KeyedSums
of_row columns journal row = thread_sums columns journal (thread_of_row row)

-- the rows of threads have all of them
pub of_rows-threads : (columns : List SpanColumn) (journal : List Entry) (threads : List Thread) → flat_map (of_row columns journal) (map (thread_row journal) threads) ≡ flat_map (thread_sums columns journal) threads
of_rows-threads columns journal [] = refl
of_rows-threads columns journal (thread ∷ threads) = ap (λ es. thread_sums columns journal thread ++ es) (of_rows-threads columns journal threads)

-- rows stay where nothing is taken
pub TakesSums-none : (rows : List Row) → TakesSums rows rows []
TakesSums-none rows = record { rows = λ sums is. is ∙ ap rows_of (sym (append-nil sums)) }

-- some are taken, and then others
pub TakesSums-both : (old mid new : List Row) (first second : KeyedSums) → TakesSums old mid first → TakesSums mid new second → TakesSums old new (first ++ second)
TakesSums-both old mid new first second one other = record { rows = λ sums is. other.rows (sums ++ first) (one.rows sums is) ∙ ap rows_of (append_assoc sums first second) }

-- what is added to rows is taken
pub TakesSums-added : (old new : List Row) (more : KeyedSums) → new ≡ rows_of (keyed_rows old ++ more) → TakesSums old new more
TakesSums-added old new more is = record { rows = λ sums rows. is ∙ ap (λ rs. rows_of (keyed_rows rs ++ more)) rows ∙ rows-then sums more }

-- where some are taken and more of the others exceed, all do
pub Exceeds-later : (old mid : List Row) (first second : KeyedSums) → TakesSums old mid first → Exceeds mid second → Exceeds old (first ++ second)
Exceeds-later old mid first second taken exceeds = λ sums is. subst (λ es. most_names < labels_in (rows_of es)) (append_assoc sums first second) (exceeds (sums ++ first) (taken.rows sums is))

-- where some exceed, all do
pub Exceeds-first : (old : List Row) (first second : KeyedSums) → Exceeds old first → Exceeds old (first ++ second)
Exceeds-first old first second exceeds = λ sums is.
    omega (arith, exceeds sums is, labels-before (sums ++ first) second, ap (λ es. labels_in (rows_of es)) (append_assoc sums first second))

-- what rows took that have too many labels exceeds
pub Exceeds-full : (old new : List Row) (more : KeyedSums) → TakesSums old new more → most_names < labels_in new → Exceeds old more
Exceeds-full old new more taken full = λ sums is. subst (λ (rows : List Row). most_names < labels_in rows) (taken.rows sums is) full

-- a stack is taken if it has ticks
pub TakesSums-timed : (process thread : Value) (stack : Stack) (time : ℕ) (old new : List Row) → 0 < time → TakesSums old new (record { key = process ∷ thread ∷ label_values stack; step = ticks_alone time } ∷ []) →
    TakesSums old new (map (keyed_stack process thread) (folded_if stack time))
TakesSums-timed process thread stack zero old new some taken = absurd (omega (arith, some))
TakesSums-timed process thread stack (suc n) old new some taken = taken

pub TakesSums-untimed : (process thread : Value) (stack : Stack) (time : ℕ) (old new : List Row) → time ≤ 0 → new ≡ old → TakesSums old new (map (keyed_stack process thread) (folded_if stack time))
TakesSums-untimed process thread stack zero old new none same = subst (λ rows. TakesSums old rows []) (sym same) (TakesSums-none old)
TakesSums-untimed process thread stack (suc n) old new none same = absurd (omega (arith, none))

-- The stacks of runs, added: how many ticks have each list of labels, under the names of a process and a thread.
use Rattle.std.specs.Prelude.{◌≡◌, ℕ, ◌+◌, ◌<◌, List, [], ◌∷◌, ◌++◌, flat_map, length, map, Option, Some, None}
use Rattle.span_stack_sums.specs.{Entry, Folded, Keyed, KeyedSums, Row, Run, SpanColumn, Stack, Sums, TableKey, Thread, Total, Value, Words, accepted, holder_name, most_names, no_sums, rows_of, thread_keys, thread_stacks, with_number, Text.labels_in}

-- so many ticks, and no other number
abbrev pub ticks_alone : ℕ → Sums
ticks_alone time = with_number Total time no_sums

-- the labels of a stack, as they stand in a key
abbrev pub label_values : Stack → List Value
label_values stack = map (λ label. Some (Words label)) stack

-- the ticks of a stack under its key: the names of its process and of its thread, if they have any, and its labels
abbrev pub keyed_stack : Value → Value → Folded → Keyed TableKey Sums
keyed_stack process thread folded = record { key = process ∷ thread ∷ label_values folded.stack; step = ticks_alone folded.time }

-- The stacks of some runs, and of how many; None where they have more labels than they may.
pub record SummedStacks : Type 0 where
  pub rows : Option (List Row)
  pub parts : ℕ

-- the rows are those of these sums, unless these have too many labels
abbrev pub Stands : Option (List Row) → KeyedSums → Type 0
Stands (Some rows) sums = rows ≡ rows_of sums
Stands None sums = most_names < labels_in (rows_of sums)

-- by labels of these columns
module _ (columns : List SpanColumn) where
  -- the stacks of a thread
  abbrev pub thread_sums : List Entry → Thread → KeyedSums
  thread_sums journal thread = map (keyed_stack (holder_name journal (thread.pid, None)) (holder_name journal (thread.pid, Some thread.tid))) (thread_stacks columns journal thread)

  -- those of all threads of a journal
  abbrev pub journal_sums : List Entry → KeyedSums
  journal_sums journal = flat_map (thread_sums journal) (thread_keys (accepted journal))

  -- those of runs
  abbrev pub stack_sums : List Run → KeyedSums
  stack_sums runs = flat_map (λ (run : Run). journal_sums run.journal) runs

  -- each key of these once, in ascending order, with all its ticks
  abbrev pub stacks_of : List Run → List Row
  stacks_of runs = rows_of (stack_sums runs)

  -- the stacks of these runs
  pub record IsStackSum (runs : List Run) (sum : SummedStacks) : Type 0 where
    pub rows : Stands sum.rows (stack_sums runs)
    pub parts : sum.parts ≡ length runs

  -- those of a journal are added
  pub record TakesJournal (journal : List Entry) (old new : SummedStacks) : Type 0 where
    pub rows : (sums : KeyedSums) → Stands old.rows sums → Stands new.rows (sums ++ journal_sums journal)
    pub parts : new.parts ≡ old.parts + 1

-- the stacks of no runs
pub record IsEmpty (sum : SummedStacks) : Type 0 where
  pub rows : sum.rows ≡ Some []
  pub parts : sum.parts ≡ 0

-- the stacks of some runs and of others are added
pub record JoinsSums (one other both : SummedStacks) : Type 0 where
  pub rows : (sums more : KeyedSums) → Stands one.rows sums → Stands other.rows more → Stands both.rows (sums ++ more)
  pub parts : both.parts ≡ one.parts + other.parts

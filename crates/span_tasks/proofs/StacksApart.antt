-- The stacks of files each of which is a run of its own.
use Rattle.std.specs.Prelude.{flat_map}
use Rattle.std.proofs.Common.{◌≡◌, ℕ, List, [], ◌∷◌, ◌++◌, map, refl, ap}
use Rattle.span_stack_sums.specs.{KeyedSums, Stacks.{journal_sums, stack_sums}}
use Rattle.span_tasks.specs.{AreGathered, Name, Run, Said, Settings, SourceBytes, SpanColumn, run_alone, shorter}

-- they don't depend on what the column of files has
pub stack_sums-shorter : (columns : List SpanColumn) (cut : ℕ) (runs : List Run) → stack_sums columns (map (shorter cut) runs) ≡ stack_sums columns runs
stack_sums-shorter columns cut [] = refl
stack_sums-shorter columns cut (run ∷ runs) = ap (λ (es : KeyedSums). journal_sums columns run.journal ++ es) (stack_sums-shorter columns cut runs)

-- what files come to, as something else that it is
pub AreGathered-as : (source : SourceBytes) (names : List Name) (settings : Settings) (ComeTo Other : List Run → Type 0) (said : Said) → ((runs : List Run) → ComeTo runs → Other runs) → AreGathered source names settings ComeTo said
    → AreGathered source names settings Other said
AreGathered-as source names settings ComeTo Other said turn gathered = record {
  files = gathered.files;
  read = gathered.read;
  accounted = gathered.accounted;
  runs = turn (map (run_alone settings) gathered.files) gathered.runs;
  says = gathered.says;
}

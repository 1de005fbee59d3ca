-- What runs come to where each has a table of its own, and what takes one more.
use Rattle.std.specs.Prelude.{◌≡◌, List, [], ◌∷◌, ◌++◌, map}
use Rattle.span_runs.specs.{Schema, Run, AreAlikeRuns, SpanTable, Runs.table_of_run}

-- a table of each, in their order
abbrev pub AreTablesOf : Schema → List Run → List SpanTable → Type 0
AreTablesOf schema runs tables = tables ≡ map (table_of_run schema) runs

-- what some runs came to takes this run, or any that is alike
abbrev pub TakesAlike : {T : Type 0} → (List Run → T → Type 0) → T → Run → T → Type 0
TakesAlike ComeTo old run new = (runs : List Run) (other : Run) → AreAlikeRuns run other → ComeTo runs old → ComeTo (runs ++ other ∷ []) new

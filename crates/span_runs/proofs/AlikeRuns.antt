-- Runs of which the last is replaced by one that is alike have the same tables.
use Rattle.std.proofs.Common.{◌≡◌, List, [], ◌∷◌, ◌++◌, length-append, refl, sym, ◌∙◌}
use Rattle.span_table.proofs.SameTables.{table_of-alike}
use Rattle.span_runs.specs.{Schema, Run, AreAlikeRuns, AreAllAlike, IsSumOf, SummedTable, table_of}

AreAlikeRuns-refl : (run : Run) → AreAlikeRuns run run
AreAlikeRuns-refl run = record { journals = record { counts = refl; acts = λ topic. refl }; files = refl; unread = refl; file = refl }

AreAllAlike-last : (runs : List Run) (run other : Run) → AreAlikeRuns run other → AreAllAlike (runs ++ run ∷ []) (runs ++ other ∷ [])
AreAllAlike-last [] run other alike = (alike, tt)
AreAllAlike-last (first ∷ runs) run other alike = (AreAlikeRuns-refl first, AreAllAlike-last runs run other alike)

pub table_of-last : (schema : Schema) (runs : List Run) (run other : Run) → AreAlikeRuns run other → table_of schema (runs ++ run ∷ []) ≡ table_of schema (runs ++ other ∷ [])
table_of-last schema runs run other alike = table_of-alike schema (runs ++ run ∷ []) (runs ++ other ∷ []) (AreAllAlike-last runs run other alike)

-- so they have the same sum
pub IsSumOf-last : (schema : Schema) (runs : List Run) (run other : Run) (sum : SummedTable) → AreAlikeRuns run other → IsSumOf schema (runs ++ run ∷ []) sum → IsSumOf schema (runs ++ other ∷ []) sum
IsSumOf-last schema runs run other sum alike is = record {
  table = is.table ∙ table_of-last schema runs run other alike;
  parts = is.parts ∙ length-append runs (run ∷ []) ∙ sym (length-append runs (other ∷ []));
}

-- What is to be read where a list has more.
use Rattle.std.proofs.Common.{List, [], ◌∷◌, Some}
use Rattle.span_runs.specs.{Bytes, Names.{AreListed, NamedBy}, Source.SourceBytes, declared.source.Name.Name}

-- the files that are given, and those of the list
pub NamedBy-listed : (source : SourceBytes) (given : List Bytes) (list : Bytes) (names : List Name) → AreListed source list given names → NamedBy source given (Some list) names
NamedBy-listed source [] list names listed = listed
NamedBy-listed source (name ∷ given) list names listed = listed

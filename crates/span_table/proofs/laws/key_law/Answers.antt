use Rattle.std.specs.Prelude.{flat_map}
use Rattle.span_table.specs.Tables.{schema_sums}
use Rattle.span_table.proofs.Rows.{RowsRise-rows_of}
use Rattle.span_table.proofs.laws.key_law.Goals as goal

pub returns : goal.returns
returns c = λ schema runs. RowsRise-rows_of (flat_map (schema_sums schema) runs)

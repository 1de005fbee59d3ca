use Rattle.span_table_text.proofs.Determined.{parts-determined}
use Rattle.span_table_text.proofs.laws.part_law.Goals as goal

pub returns : goal.returns
returns c = parts-determined

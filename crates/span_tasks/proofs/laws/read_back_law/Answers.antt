use Rattle.span_tasks.proofs.ReadBack.{json-parts, parts-added}
use Rattle.span_tasks.proofs.laws.read_back_law.Goals as goal

pub returns : goal.returns
returns c = record { printed = json-parts c.columns_law.ensures.made c.columns_law.ensures.added c.columns_law.ensures.tested c.numbers_law.ensures.made c.numbers_law.ensures.added; added = parts-added }

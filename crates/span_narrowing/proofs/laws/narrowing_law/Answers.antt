use Rattle.span_narrowing.proofs.{Adding.{narrowed-added, narrowed-moved, narrowed-together}, Plain.narrowed-plain}
use Rattle.span_narrowing.proofs.laws.narrowing_law.Goals as goal

pub returns : goal.returns
returns c = record { plain = narrowed-plain; added = narrowed-added; together = narrowed-together; order = narrowed-moved }

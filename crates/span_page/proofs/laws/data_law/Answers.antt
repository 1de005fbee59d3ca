use Rattle.span_page.proofs.SafeTexts.{data-harmless}
use Rattle.span_page.proofs.laws.data_law.Goals as goal

pub returns : goal.returns
returns c = data-harmless

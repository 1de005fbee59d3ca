use Rattle.span_page.proofs.SamePages.{page_of-alike}
use Rattle.span_page.proofs.laws.page_law.Goals as goal

pub returns : goal.returns
returns c = page_of-alike

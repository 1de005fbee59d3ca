use Rattle.span_read.proofs.Decimals.{decimals-exact}
use Rattle.span_read.proofs.laws.decimals_law.Goals as goal

pub returns : goal.returns
returns c = decimals-exact

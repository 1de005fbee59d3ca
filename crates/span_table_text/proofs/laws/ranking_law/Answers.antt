use Rattle.span_table_text.proofs.Ranked.{ranked-each}
use Rattle.span_table_text.proofs.laws.ranking_law.Goals as goal

pub returns : goal.returns
returns c = ranked-each

use Rattle.std.proofs.Common.{length}
use Rattle.span_table_text.proofs.members.+put_key.Given as goal

-- one column fewer each time
abbrev pub decreases-put_key : goal.decreases-put_key
decreases-put_key l = length l.columns.now

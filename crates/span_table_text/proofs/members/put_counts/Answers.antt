use Rattle.span_table_text.specs.Tokens.{entry_counts_tokens}
use Rattle.span_table_text.proofs.Written.{Appends-append, Follow-append}
use Rattle.span_table_text.proofs.members.put_counts.Goals as goal

pub returns : goal.returns
returns c =
    let three = Follow-append c.in_ok-put_number.ensures (Follow-append c.in_ok-put_number-2.ensures c.in_ok-put_number-3.ensures) in
    Appends-append c.put_entry_counts.result c.put_entry_counts.new.writer (entry_counts_tokens c.args.counts.now.entries) three c.put_entry_counts.ensures

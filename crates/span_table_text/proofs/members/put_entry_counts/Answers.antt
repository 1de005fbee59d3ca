use Rattle.std.proofs.Common.{codes, subst}
use Rattle.span_table_text.specs.{CountRow, Tokens.{Appends, entry_counts_tokens, number_tokens}}
use Rattle.span_table_text.proofs.Written.{Appends-append, Follow-append}
use Rattle.span_table_text.proofs.members.put_entry_counts.Goals as goal

pub returns : goal.returns
returns c =
    let two = Follow-append c.in_ok-put_number.ensures c.in_ok-put_number-2.ensures in
    let four = Follow-append two (Follow-append c.in_ok-put_number-3.ensures c.in_ok-put_number-4.ensures) in
    subst (λ (entries : CountRow). Appends c.put_number-5.result c.args.writer.now c.put_number-5.new.writer (entry_counts_tokens entries)) c.entries.view_is
    (Appends-append c.put_number-5.result c.put_number-5.new.writer (number_tokens (codes "seals") c.entries.inside.seals) four c.put_number-5.ensures)

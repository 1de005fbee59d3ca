use Rattle.std.proofs.Common.{[], ◌∷◌, ◌++◌, ◌∙◌, append_assoc, subst}
use Rattle.json.specs.Token.{end_object}
use Rattle.span_table_text.specs.Tokens.{Appends, numbers_tokens, start_tokens}
use Rattle.span_table_text.proofs.Written.{Appends-one, Follow-append, Follow-one, start_tokens-append}
use Rattle.span_table_text.proofs.json_lines.put_head.Goals as goal

pub returns : goal.returns
returns c =
    let head = c.args.head.now in
    let numbers = Follow-append (Follow-append (Follow-one c.in_ok-key.ensures) (Follow-one c.in_ok-u64.ensures)) c.in_ok-put_counts.ensures in
    subst (Appends c.end_object.result c.args.writer.now c.end_object.new.self) (append_assoc (start_tokens head.schema.now head.unit []) (numbers_tokens head.rows head.counts) (end_object ∷ [])
    ∙ start_tokens-append head.schema.now head.unit (numbers_tokens head.rows head.counts ++ end_object ∷ []))
    (Appends-one c.end_object.result (Follow-append c.in_ok-put_start.ensures numbers) c.end_object.ensures)

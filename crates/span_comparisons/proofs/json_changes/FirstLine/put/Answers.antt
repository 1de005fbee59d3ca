use Rattle.std.proofs.Common.{[], ◌∷◌, ◌++◌, ◌∙◌, append_assoc, subst}
use Rattle.json.specs.Token.{end_object}
use Rattle.span_table_text.proofs.Written.{Appends-one, Follow-append, start_tokens-append}
use Rattle.span_comparisons.specs.{Appends, start_tokens, JsonChanges.both_counts_tokens}
use Rattle.span_comparisons.proofs.json_changes.FirstLine.put.Goals as goal

pub returns : goal.returns
returns c =
    let line = c.args.self.now in
    let numbers = both_counts_tokens line.rows line.same line.base line.other in
    subst (Appends c.end_object.result c.args.writer.now c.end_object.new.self) (append_assoc (start_tokens line.schema.now line.unit []) numbers (end_object ∷ [])
    ∙ start_tokens-append line.schema.now line.unit (numbers ++ end_object ∷ []))
    (Appends-one c.end_object.result (Follow-append c.in_ok-put_start.ensures c.in_ok-put_numbers.ensures) c.end_object.ensures)

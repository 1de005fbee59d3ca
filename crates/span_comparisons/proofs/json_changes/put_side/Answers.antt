use Rattle.span_table_text.proofs.Written.{Appends-one, Follow-append, Follow-one}
use Rattle.span_comparisons.proofs.json_changes.put_side.Goals as goal

pub returns : goal.returns
returns c =
    let begun = Follow-append (Follow-one c.in_ok-key.ensures) (Follow-one c.in_ok-begin_object.ensures) in
    Appends-one c.end_object.result (Follow-append begun c.in_ok-put_counts.ensures) c.end_object.ensures

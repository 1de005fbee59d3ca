use Rattle.std.proofs.Common.{codes}
use Rattle.span_table_text.proofs.Written.{Appends-append, Follow-append, Follow-one}
use Rattle.span_comparisons.specs.JsonChanges.{side_tokens}
use Rattle.span_comparisons.proofs.json_changes.FirstLine.put_numbers.Goals as goal

pub returns : goal.returns
returns c =
    let rows = Follow-append (Follow-one c.in_ok-key.ensures) (Follow-one c.in_ok-u64.ensures) in
    let same = Follow-append (Follow-one c.in_ok-key-2.ensures) (Follow-one c.in_ok-u64-2.ensures) in
    Appends-append c.put_side-2.result c.put_side-2.new.writer (side_tokens (codes "other") c.args.self.now.other) (Follow-append rows (Follow-append same c.in_ok-put_side.ensures)) c.put_side-2.ensures

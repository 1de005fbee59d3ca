use Rattle.std.proofs.Common.{rules, ◌≡◌, w64, to_z, of_z}
use Rattle.span_self_time.proofs.division.time_map.TimeMap.note.Goals as goal

pub returns-then-tied : goal.returns-then-tied
returns-then-tied c = λ owners barred is.
    let start : to_z w64 (of_z w64 c.args.span.now.span_start) ≡ c.args.span.now.span_start = search rules in
    let until : to_z w64 (of_z w64 c.args.span.now.span_until) ≡ c.args.span.now.span_until = search rules in
    record {
      divided = is.divided;
      whole = is.whole;
      times = is.times;
      barred = c.note.ensures owners is.barred (rw (start, until) barred);
    }

use Rattle.std.proofs.Common.{rules, ◌≡◌, Some, sym, ap, ◌∙◌, w64, to_z, of_z}
use Rattle.span_self_time.proofs.division.time_map.stretches.Stretches.segment_from.Goals as goal

pub returns-in-Some-Some : goal.returns-in-Some-Some
returns-in-Some-Some c =
    let time : to_z w64 (of_z w64 c.args.time) ≡ c.args.time = search rules in
    sym (rw time at c.in-Some-Some.ensures.value) ∙ ap Some c.in-Some-Some.field-0-is

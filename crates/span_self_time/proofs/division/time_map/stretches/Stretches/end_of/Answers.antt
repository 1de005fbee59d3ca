use Rattle.std.proofs.Common.{rules, ◌≡◌, Some, ap, ◌∙◌, w64, to_z, of_z}
use Rattle.span_self_time.proofs.division.time_map.stretches.Stretches.end_of.Goals as goal

pub returns-in-Some : goal.returns-in-Some
returns-in-Some c =
    let until : to_z w64 (of_z w64 c.in-Some.owned.segment.until) ≡ c.in-Some.owned.segment.until = search rules in
    rw until (c.requires.divided.holds.held c.args.time c.in-Some.owned (c.requires.held ∙ ap Some c.in-Some.is)).next

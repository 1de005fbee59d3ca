use Rattle.std.proofs.Common.{option_map, ap, ◌∙◌}
use Rattle.serde_json.specs.View.{view}
use Rattle.serde_json.proofs.Views.{view-lookup}
use Rattle.span_read.proofs.value_fields.field_at.Goals as goal

pub returns-in_ok-field_value-in-Some : goal.returns-in_ok-field_value-in-Some
returns-in_ok-field_value-in-Some c =
    let found = ap (option_map view) c.in-Some.ensures.value ∙ view-lookup c.args.name.now c.args.members.now.entries in
    rw (← found, c.in_ok-field_value-in-Some.ensures)

pub returns-in-None : goal.returns-in-None
returns-in-None c =
    let found = ap (option_map view) c.in-None.ensures.value ∙ view-lookup c.args.name.now c.args.members.now.entries in
    rw (← found)

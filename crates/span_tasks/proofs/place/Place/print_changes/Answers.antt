use Rattle.std.proofs.Common.{inr, ap, ◌∙◌}
use Rattle.span_runs.proofs.Stopping.{OfStop-weaker}
use Rattle.span_tasks.proofs.place.Place.print_changes.Goals as goal

-- a number is too great
pub returns-in-Err-text_of_changes : goal.returns-in-Err-text_of_changes
returns-in-Err-text_of_changes g c =
    let sides = c.in-Ok.sides in
    OfStop-weaker _ _ (λ lines exceeds. inr (
      (
        record {
          base = sides.base;
          other = sides.other;
          are = c.in-Ok.ensures.sides;
          earlier = exceeds.0;
          later = exceeds.1;
          only_base = exceeds.2;
          only_other = exceeds.3;
        },
        exceeds.4,
      ),
      exceeds.5,
    )) c.in-Err-text_of_changes.halt c.in-Err-text_of_changes.ensures.stop

-- what changed is printed
pub returns-in-Ok-print_of_sides : goal.returns-in-Ok-print_of_sides
returns-in-Ok-print_of_sides g c =
    let sides = c.in-Ok.sides in
    let text = c.in-Ok-text_of_changes.ensures.text in
    let print = c.in-Ok-print_of_sides.ensures in (
      print.hints,
      record {
        both = record {
          base = sides.base;
          other = sides.other;
          are = c.in-Ok.ensures.sides;
          earlier = text.0;
          later = text.1;
          only_base = text.2;
          only_other = text.3;
        };
        fits = text.4;
        is = ap (λ bytes. bytes.items) print.text ∙ text.5;
        said = print.lines;
        warned = print.warnings;
      },
    )

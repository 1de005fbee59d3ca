use Rattle.std.proofs.Common.{inr}
use Rattle.span_runs.proofs.Stopping.{OfStop-weaker}
use Rattle.span_tasks.proofs.place.Place.print_table.Goals as goal

-- a number is too great
pub returns-in-Err-text_of_side : goal.returns-in-Err-text_of_side
returns-in-Err-text_of_side g c =
    OfStop-weaker _ _ (λ lines exceeds. inr ((record { side = c.in-Ok.side; is = c.in-Ok.ensures.side; table = exceeds.0; only = exceeds.1 }, exceeds.2), exceeds.3)) c.in-Err-text_of_side.halt c.in-Err-text_of_side.ensures.stop

-- the table is printed
pub returns-in-Ok-print_of_side : goal.returns-in-Ok-print_of_side
returns-in-Ok-print_of_side g c =
    let text = c.in-Ok-text_of_side.ensures.text in
    let print = c.in-Ok-print_of_side.ensures in (
      print.hints,
      record {
        made = record {
          one = record { side = c.in-Ok.side; is = c.in-Ok.ensures.side; table = text.0; only = text.1 };
          is = rw print.text text.2;
        };
        said = print.lines;
        warned = print.warnings;
      },
    )

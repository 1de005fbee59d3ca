use Rattle.std.proofs.Common.{inr, ap, ◌∙◌}
use Rattle.span_runs.proofs.Stopping.{OfStop-weaker}
use Rattle.span_tasks.proofs.place.Place.print_repetitions.Goals as goal

-- a number is too great
pub returns-in-Err-repetitions : goal.returns-in-Err-repetitions
returns-in-Err-repetitions g c =
    let few = rw (c.deref.ensures.value, c.deref-2.ensures.value) at (c.are_few.ensures.0 c.if-not-are_few.false) in
    OfStop-weaker _ _ (λ lines exceeds. inr (
      (
        record {
          few = few;
          base = c.in-Ok.sides.base;
          other = c.in-Ok.sides.other;
          are = c.in-Ok.ensures.sides;
        },
        exceeds.0,
      ),
      exceeds.1,
    )) c.in-Err-repetitions.halt (rw c.texts_of-texts.ensures.options at c.in-Err-repetitions.ensures.stop)

-- how numbers are spread is printed
pub returns-in-Ok-print_of_sides : goal.returns-in-Ok-print_of_sides
returns-in-Ok-print_of_sides g c =
    let few = rw (c.deref.ensures.value, c.deref-2.ensures.value) at (c.are_few.ensures.0 c.if-not-are_few.false) in
    let texts = c.texts_of-texts.ensures in
    let print = c.in-Ok-print_of_sides.ensures in (
      print.hints,
      record {
        repeated = record { few = few; base = c.in-Ok.sides.base; other = c.in-Ok.sides.other; are = c.in-Ok.ensures.sides };
        fits = rw texts.options at c.in-Ok-repetitions.ensures.fits;
        is = ap (λ bytes. bytes.items) print.text ∙ (rw (texts.unit, texts.options) at c.in-Ok-repetitions.ensures.text);
        said = print.lines;
        warned = print.warnings;
      },
    )

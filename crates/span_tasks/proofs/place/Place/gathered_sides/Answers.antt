use Rattle.span_tasks.proofs.BothSides.{StopSides-runs}
use Rattle.span_tasks.proofs.place.Place.gathered_sides.Goals as goal

-- the second stopped
pub returns-in-Ok-before : goal.returns-in-Ok-before
returns-in-Ok-before g c =
    let wanted = c.args.wanted in
    let stop = rw c.in-Err-Stopped.field-0-is at c.in-Err-Stopped.ensures.stop in
    record {
      sides = tt;
      base_hints = tt;
      hints = tt;
      stop = (
        StopSides-runs (g.S.Source.bytes c.args.self.now.source.now) wanted.options.now wanted.each wanted.items c.args.base.now c.args.files.now c.in-Ok.base c.in-Err-Stopped.stop.lines.items c.in-Ok-before.stop.lines.items
            c.in_default.not-Printed c.in-Ok.ensures.side stop.0 c.in-Ok-before.ensures.lines,
        c.in-Ok-before.ensures.hints,
      );
    }

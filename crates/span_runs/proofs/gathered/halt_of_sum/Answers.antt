use Rattle.std.proofs.Common.{◌≡◌, ◌++◌, ap, ◌∙◌}
use Rattle.span_runs.specs.{Bytes, run_line}
use Rattle.span_runs.proofs.Stopping.{OfStop-after}
use Rattle.span_runs.proofs.gathered.halt_of_sum.Goals as goal

-- the lines, and then that there are too many
pub returns-in-TooMany : goal.returns-in-TooMany
returns-in-TooMany c =
    OfStop-after (λ own. own ≡ run_line c.code.result) _ c.args.lines.items (λ own is. (ap (λ (line : Bytes). c.args.lines.items ++ line) (is ∙ ap run_line c.code.ensures), c.in-TooMany.is))
    c.of_run.result c.after.result c.after.ensures c.of_run.ensures

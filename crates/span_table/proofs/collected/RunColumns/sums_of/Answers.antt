use Rattle.std.proofs.Common.{rules, ◌≡◌, ap₂, ◌∙◌}
use Rattle.span_table.specs.{length_of, Sums.{only, sums_of_span}}
use Rattle.span_table.proofs.collected.RunColumns.sums_of.Goals as goal

pub returns : goal.returns
returns c =
    let timed = c.args.timed.now in
    let sums : c.of_span.result ≡ sums_of_span (length_of timed.span) timed.self_time c.args.is_outer = search rules in
    c.only.ensures ∙ ap₂ only c.numbers.ensures sums

use Rattle.std.proofs.Common.{Some, ◌∙◌}
use Rattle.span_table_text.proofs.PrintedLines.{counts_small}
use Rattle.span_parts.proofs.guess.entry_counts_of.Goals as goal

pub returns-in_err-skipped : goal.returns-in_err-skipped
returns-in_err-skipped c = λ counts rest fits is.
    let small = counts_small counts fits in
    let accepted = c.in_ok-accepted.ensures counts.entries.accepted _ small.accepted is in
    let refused = c.in_ok-refused.ensures counts.entries.refused _ small.refused accepted.1 in
    absurd (c.in_err-skipped.ensures counts.entries.skipped _ small.skipped refused.1)

pub returns-in_err-queries : goal.returns-in_err-queries
returns-in_err-queries c = λ counts rest fits is.
    let small = counts_small counts fits in
    let accepted = c.in_ok-accepted.ensures counts.entries.accepted _ small.accepted is in
    let refused = c.in_ok-refused.ensures counts.entries.refused _ small.refused accepted.1 in
    let skipped = c.in_ok-skipped.ensures counts.entries.skipped _ small.skipped refused.1 in
    absurd (c.in_err-queries.ensures counts.entries.queries _ small.queries skipped.1)

pub returns-in_err-seals : goal.returns-in_err-seals
returns-in_err-seals c = λ counts rest fits is.
    let small = counts_small counts fits in
    let accepted = c.in_ok-accepted.ensures counts.entries.accepted _ small.accepted is in
    let refused = c.in_ok-refused.ensures counts.entries.refused _ small.refused accepted.1 in
    let skipped = c.in_ok-skipped.ensures counts.entries.skipped _ small.skipped refused.1 in
    let queries = c.in_ok-queries.ensures counts.entries.queries _ small.queries skipped.1 in
    absurd (c.in_err-seals.ensures counts.entries.seals _ small.seals queries.1)

pub returns : goal.returns
returns c = λ counts rest fits is.
    let small = counts_small counts fits in
    let accepted = c.in_ok-accepted.ensures counts.entries.accepted _ small.accepted is in
    let refused = c.in_ok-refused.ensures counts.entries.refused _ small.refused accepted.1 in
    let skipped = c.in_ok-skipped.ensures counts.entries.skipped _ small.skipped refused.1 in
    let queries = c.in_ok-queries.ensures counts.entries.queries _ small.queries skipped.1 in
    let seals = c.in_ok-seals.ensures counts.entries.seals _ small.seals queries.1 in
    λ i. Some (record {
      accepted = (c.from.ensures ∙ accepted.0) i;
      refused = (c.from-2.ensures ∙ refused.0) i;
      skipped = (c.from-3.ensures ∙ skipped.0) i;
      queries = (c.from-4.ensures ∙ queries.0) i;
      seals = (c.from-5.ensures ∙ seals.0) i;
    })

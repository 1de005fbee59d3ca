use Rattle.std.proofs.Common.{◌≡◌, Some, ◌∙◌}
use Rattle.span_table_text.proofs.PrintedLines.{counts_small}
use Rattle.span_parts.proofs.guess.numbers_of.Goals as goal

pub returns-in_err-files : goal.returns-in_err-files
returns-in_err-files c = λ rows counts left few fits is.
    let small = counts_small counts fits in
    let counted = c.in_ok-rows.ensures rows _ few is in
    let runs = c.in_ok-runs.ensures counts.runs _ small.runs counted.1 in
    absurd (c.in_err-files.ensures counts.files _ small.files runs.1)

pub returns-in_err-unread : goal.returns-in_err-unread
returns-in_err-unread c = λ rows counts left few fits is.
    let small = counts_small counts fits in
    let counted = c.in_ok-rows.ensures rows _ few is in
    let runs = c.in_ok-runs.ensures counts.runs _ small.runs counted.1 in
    let files = c.in_ok-files.ensures counts.files _ small.files runs.1 in
    absurd (c.in_err-unread.ensures counts.unread _ small.unread files.1)

pub returns-in_err-entry_counts_of : goal.returns-in_err-entry_counts_of
returns-in_err-entry_counts_of c = λ rows counts left few fits is.
    let small = counts_small counts fits in
    let counted = c.in_ok-rows.ensures rows _ few is in
    let runs = c.in_ok-runs.ensures counts.runs _ small.runs counted.1 in
    let files = c.in_ok-files.ensures counts.files _ small.files runs.1 in
    let unread = c.in_ok-unread.ensures counts.unread _ small.unread files.1 in
    let none = c.in_err-entry_counts_of.ensures counts left fits unread.1 in
    absurd cc

pub returns : goal.returns
returns c = λ rows counts left few fits is.
    let small = counts_small counts fits in
    let counted = c.in_ok-rows.ensures rows _ few is in
    let runs = c.in_ok-runs.ensures counts.runs _ small.runs counted.1 in
    let files = c.in_ok-files.ensures counts.files _ small.files runs.1 in
    let unread = c.in_ok-unread.ensures counts.unread _ small.unread files.1 in
    let entries = c.in_ok-entry_counts_of.ensures counts left fits unread.1 in
    let same : c.in_ok-entry_counts_of.field-0 ≡ counts.entries = cc in
    λ i. Some (
      counted.0 i,
      record {
        runs = (c.from.ensures ∙ runs.0) i;
        files = (c.from-2.ensures ∙ files.0) i;
        unread = (c.from-3.ensures ∙ unread.0) i;
        entries = same i;
      },
    )

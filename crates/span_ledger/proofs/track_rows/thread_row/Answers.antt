use Rattle.std.proofs.Common.{◌≡◌, rules, ap, ◌∙◌, Some}
use Rattle.span_journal.specs.Rows.{names_of}
use Rattle.span_ledger.specs.TrackRows.{track_row}
use Rattle.span_ledger.proofs.{ThreadTelling.IsTrackOf-journal, TrackRows.track_row-is}
use Rattle.span_ledger.proofs.track_rows.thread_row.Goals as goal

pub returns : goal.returns
returns c =
    let journal = c.args.journal.now in
    let thread = c.args.thread.now in
    let spans = c.args.tracks.now.phases.spans in
    let named : c.in_ok-name.name ≡ (names_of journal (thread.pid, Some thread.tid)).name = search rules in
    let row : c.named_row.result ≡ track_row spans.threads thread c.in_ok-name.name = search rules in
    row ∙ ap (track_row spans.threads thread) named ∙ track_row-is spans.names thread journal spans.threads (IsTrackOf-journal journal _ c.requires thread)

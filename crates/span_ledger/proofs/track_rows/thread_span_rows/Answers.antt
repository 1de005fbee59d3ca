use Rattle.std.proofs.Common.{rules, ◌≡◌, ◌∙◌}
use Rattle.span_ledger.specs.{thread_events, TrackRows.track_span_rows, Tracked.track_at}
use Rattle.span_ledger.proofs.{ThreadTelling.IsTrackOf-journal, TrackRows.span_rows_of_track-is}
use Rattle.span_ledger.proofs.track_rows.thread_span_rows.Goals as goal

pub returns : goal.returns
returns c =
    let journal = c.args.journal.now in
    let thread = c.args.thread.now in
    let spans = c.args.tracks.now.phases.spans in
    let added : c.add_span_rows.new.rows.items ≡ track_span_rows spans thread = search rules in
    added ∙ span_rows_of_track-is spans.names thread (thread_events thread journal) (track_at spans.threads thread) (IsTrackOf-journal journal _ c.requires thread)

use Rattle.std.specs.Prelude.{unwrap_or}
use Rattle.std.proofs.Common.{[], ◌++◌, sym, ap, ◌∙◌, append-nil}
use Rattle.span_keyed_tracks.proofs.Results.{on_ok-map}
use Rattle.span_ledger.specs.{thread_spans, TrackRows.{track_span_rows, span_rows_of_track}, Tracked.SpansKept}
use Rattle.span_ledger.proofs.track_rows.add_span_rows.Goals as goal

pub returns-in-Some : goal.returns-in-Some
returns-in-Some c =
    on_ok-map c.add_rows_of_track.result _ _
    (λ are. are ∙ ap (λ ys. c.args.rows.now.items ++ ys) (ap (span_rows_of_track c.spans.inside.names c.args.thread.now) c.as_track.ensures ∙ ap (λ o. span_rows_of_track c.spans.inside.names c.args.thread.now (unwrap_or o (thread_spans []))) c.in-Some.ensures.value
    ∙ ap (λ (t : SpansKept). track_span_rows t c.args.thread.now) c.spans.view_is))
    c.add_rows_of_track.ensures

pub returns-in-None : goal.returns-in-None
returns-in-None c =
    sym (append-nil c.args.rows.now.items) ∙ ap (λ ys. c.args.rows.now.items ++ ys) (ap (λ o. span_rows_of_track c.spans.inside.names c.args.thread.now (unwrap_or o (thread_spans []))) c.in-None.ensures.value
    ∙ ap (λ (t : SpansKept). track_span_rows t c.args.thread.now) c.spans.view_is)

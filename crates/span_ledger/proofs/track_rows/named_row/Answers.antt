use Rattle.std.proofs.Common.{◌≡◌, [], rules, sym, ap, ◌∙◌}
use Rattle.span_keyed_tracks.proofs.Keyed.{kept_at-found}
use Rattle.span_ledger.specs.{thread_cmp, thread_spans, Tracked.{SpansKept, track_at}}
use Rattle.span_ledger.proofs.track_rows.named_row.Goals.{in-Some, in-None}
use Rattle.span_ledger.proofs.track_rows.named_row.Goals as goal

pub returns : goal.returns
returns c =
    let thread = c.args.thread.now in
    elim c.match-get.branch [
      | in-Some w ↦
          let same : track_at c.args.spans.now.threads thread ≡ w.in-Some.track.now =
          ap (λ (kept : SpansKept). track_at kept.threads thread) (sym c.spans.view_is)
          ∙ kept_at-found thread_cmp (thread_spans []) c.spans.inside.threads.entries thread w.in-Some.track.now (sym w.in-Some.ensures.value) in
          rw same (search rules)
      | in-None w ↦ search rules
    ]

use Rattle.std.specs.Prelude.{Option, unwrap_or}
use Rattle.std.proofs.Common.{rules, ◌≡◌, ℕ, [], sym, ap, ◌∙◌}
use Rattle.span_keyed_tracks.proofs.{Keyed.kept_at-found, Results.if_ok-map}
use Rattle.span_ledger.specs.{thread_cmp, ThreadSpans, thread_spans, thread_events, Tracked.SpansKept}
use Rattle.span_ledger.proofs.NamedSpans.{IsTrackOf-kept, self_times-track}
use Rattle.span_ledger.proofs.named_spans.self_times.Goals as goal

pub returns-in-Some : goal.returns-in-Some
returns-in-Some c =
    let thread = c.args.thread.now in
    let track = c.as_track.result.now in
    let kept : SpansKept = record { names = c.spans.inside.names; threads = c.spans.inside.threads.entries } in
    let same : kept ≡ c.args.tracks.now.phases.spans = search rules in
    let found = kept_at-found thread_cmp (thread_spans []) kept.threads thread c.in-Some.track.now (sym c.in-Some.ensures.value) ∙ sym c.as_track.ensures in
    let is = IsTrackOf-kept c.args.journal.now c.args.tracks.now c.requires kept same thread track found in
    if_ok-map c.self_times.result _ _ (λ times are. are ∙ self_times-track kept.names (thread_events thread c.args.journal.now) track is) c.self_times.ensures

pub returns-in-None : goal.returns-in-None
returns-in-None c =
    let thread = c.args.thread.now in
    let kept : SpansKept = record { names = c.spans.inside.names; threads = c.spans.inside.threads.entries } in
    let same : kept ≡ c.args.tracks.now.phases.spans = search rules in
    let none = ap (λ (o : Option (ThreadSpans ℕ)). unwrap_or o (thread_spans [])) (sym c.in-None.ensures.value) in
    let is = IsTrackOf-kept c.args.journal.now c.args.tracks.now c.requires kept same thread (thread_spans []) none in
    c.new.ensures.items ∙ self_times-track kept.names (thread_events thread c.args.journal.now) (thread_spans []) is

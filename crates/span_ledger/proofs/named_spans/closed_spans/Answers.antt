use Rattle.std.specs.Prelude.{Option, unwrap_or}
use Rattle.std.proofs.Common.{rules, ◌≡◌, ℕ, [], sym, ap, subst, ◌∙◌}
use Rattle.span_keyed_tracks.proofs.{Keyed.kept_at-found, Results.if_ok-map}
use Rattle.span_ledger.specs.{thread_cmp, ThreadSpans, thread_spans, thread_events, Named.AreThreadSpans, Tracked.SpansKept}
use Rattle.span_ledger.proofs.NamedSpans.{AreThreadSpans-track, IsTrackOf-kept, named_spans-track}
use Rattle.span_ledger.proofs.named_spans.closed_spans.Goals as goal

pub returns-in-Some-clause-spans : goal.returns-in-Some-clause-spans
returns-in-Some-clause-spans c =
    let thread = c.args.thread.now in
    let track = c.as_track.result.now in
    let kept : SpansKept = record { names = c.spans.inside.names; threads = c.spans.inside.threads.entries } in
    let same : kept ≡ c.args.tracks.now.phases.spans = search rules in
    let found = kept_at-found thread_cmp (thread_spans []) kept.threads thread c.in-Some.track.now (sym c.in-Some.ensures.value) ∙ sym c.as_track.ensures in
    let is = IsTrackOf-kept c.args.journal.now c.args.tracks.now c.requires kept same thread track found in
    if_ok-map c.named_spans.result _ _ (λ spans are. are ∙ named_spans-track kept.names (thread_events thread c.args.journal.now) track is) c.named_spans.ensures.spans

pub returns-in-Some-clause-are : goal.returns-in-Some-clause-are
returns-in-Some-clause-are c =
    let thread = c.args.thread.now in
    let track = c.as_track.result.now in
    let events = thread_events thread c.args.journal.now in
    let kept : SpansKept = record { names = c.spans.inside.names; threads = c.spans.inside.threads.entries } in
    let same : kept ≡ c.args.tracks.now.phases.spans = search rules in
    let found = kept_at-found thread_cmp (thread_spans []) kept.threads thread c.in-Some.track.now (sym c.in-Some.ensures.value) ∙ sym c.as_track.ensures in
    let is = IsTrackOf-kept c.args.journal.now c.args.tracks.now c.requires kept same thread track found in
    let closed = AreThreadSpans-track kept.names events track is c.named_spans.ensures.closed in
    if_ok-map c.named_spans.result _ _ (λ spans are. subst AreThreadSpans (sym (are ∙ named_spans-track kept.names events track is)) closed) c.named_spans.ensures.spans

pub returns-in-None-clause-spans : goal.returns-in-None-clause-spans
returns-in-None-clause-spans c =
    let thread = c.args.thread.now in
    let kept : SpansKept = record { names = c.spans.inside.names; threads = c.spans.inside.threads.entries } in
    let same : kept ≡ c.args.tracks.now.phases.spans = search rules in
    let none = ap (λ (o : Option (ThreadSpans ℕ)). unwrap_or o (thread_spans [])) (sym c.in-None.ensures.value) in
    let is = IsTrackOf-kept c.args.journal.now c.args.tracks.now c.requires kept same thread (thread_spans []) none in
    c.new.ensures.items ∙ named_spans-track kept.names (thread_events thread c.args.journal.now) (thread_spans []) is

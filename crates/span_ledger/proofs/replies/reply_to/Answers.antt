use Rattle.std.proofs.Common.{◌≡◌, rules, refl, ap, ◌∙◌, to_z, of_z, w64}
use Rattle.span_keyed_tracks.proofs.{Async.async_spans_at-StandsFor, Flow.flow_chains_at-StandsFor}
use Rattle.span_ledger.specs.{Gives, Thread, async_spans_at, async_totals, CounterStandsFor, series_totals, flow_chains_at, flow_totals, number_in, Async, Flow, Series, TrackRows.{number_reply, track_reply}, Tracked.track_at}
use Rattle.span_ledger.proofs.{ThreadTelling.IsTrackOf-journal, TrackReplies.{track_reply-is, number_reply-is}}
use Rattle.span_ledger.proofs.replies.reply_to.Goals as goal

pub returns-in-Thread : goal.returns-in-Thread
returns-in-Thread c =
    let spans = c.args.tracks.now.phases.spans in
    let thread : Thread = record { pid = c.in-Thread.pid; tid = c.in-Thread.tid } in
    let pid : to_z w64 (of_z w64 thread.pid) ≡ thread.pid = search rules in
    let tid : to_z w64 (of_z w64 thread.tid) ≡ thread.tid = search rules in
    let told = rw (pid, tid) at c.thread_reply.ensures in
    let own : c.thread_reply.result ≡ track_reply (track_at spans.threads thread) = search (rules, told) in
    rw c.in-Thread.is (own ∙ track_reply-is _ _ _ (IsTrackOf-journal c.args.journal.now _ c.requires.follows thread))

pub returns-in-Name : goal.returns-in-Name
returns-in-Name c =
    let spans = c.args.tracks.now.phases.spans in
    let thread : Thread = record { pid = c.in-Name.pid; tid = c.in-Name.tid } in
    let own : c.name_reply.result ≡ number_reply (track_at spans.threads thread) (number_in spans.names c.in-Name.name) = search rules in
    rw c.in-Name.is (own ∙ number_reply-is _ _ _ (IsTrackOf-journal c.args.journal.now _ c.requires.follows thread) c.in-Name.name _ refl)

pub returns-in-AsyncOf : goal.returns-in-AsyncOf
returns-in-AsyncOf c =
    let own : c.of.result ≡ async_totals (async_spans_at c.args.tracks.now.phases.asynchronous c.in-AsyncOf.key) = search rules in
    rw c.in-AsyncOf.is (ap Async (own ∙ ap async_totals (async_spans_at-StandsFor _ _ c.in-AsyncOf.key c.requires.follows.phases.asynchronous)))

pub returns-in-FlowOf : goal.returns-in-FlowOf
returns-in-FlowOf c =
    let own : c.of-in-FlowOf.result ≡ flow_totals (flow_chains_at c.args.tracks.now.phases.flows c.in-FlowOf.key) = search rules in
    rw c.in-FlowOf.is (ap Flow (own ∙ ap flow_totals (flow_chains_at-StandsFor _ _ c.in-FlowOf.key c.requires.follows.phases.flows)))

pub returns-in-Series : goal.returns-in-Series
returns-in-Series c =
    let own : Gives CounterStandsFor c.args.tracks.now.phases.counters (series_totals c.in-Series.key) c.of-in-Series.result = search rules in
    rw c.in-Series.is (ap Series (own _ c.requires.follows.phases.counters))

use Rattle.std.proofs.Common.{◌≡◌, rules, sym, ap, subst}
use Rattle.span_ledger.specs.{an_event, async_event, flow_event, span_event, to_async, to_flow, to_thread, suits_end, told_at, Telling.{accepted_at, TellsPhase}, Tracked.{HasPhaseRoom, PhasesKept}}
use Rattle.span_ledger.proofs.PhaseTelling.{TellsPhase-spans, TellsPhase-async, TellsPhase-counter, TellsPhase-flow, TellsPhase-meta}
use Rattle.span_ledger.proofs.phase_tracks.PhaseTracks.tell.Goals as goal

pub tell-requires-clause-room : goal.tell-requires-clause-room
tell-requires-clause-room c = (subst (λ t. HasPhaseRoom t c.args.at) (sym c.self.view_is) c.requires.room).spans

pub tell_async-requires-clause-room : goal.tell_async-requires-clause-room
tell_async-requires-clause-room c = (subst (λ t. HasPhaseRoom t c.args.at) (sym c.self.view_is) c.requires.room).asynchronous

pub tell_flow-requires-clause-room : goal.tell_flow-requires-clause-room
tell_flow-requires-clause-room c = (subst (λ t. HasPhaseRoom t c.args.at) (sym c.self.view_is) c.requires.room).flows

pub tell_counter-requires-clause-room : goal.tell_counter-requires-clause-room
tell_counter-requires-clause-room c = (subst (λ t. HasPhaseRoom t c.args.at) (sym c.self.view_is) c.requires.room).counters

pub tell_instant-requires-clause-room : goal.tell_instant-requires-clause-room
tell_instant-requires-clause-room c = (subst (λ t. HasPhaseRoom t c.args.at) (sym c.self.view_is) c.requires.room).meta

pub returns-in-SpanBegin-clause-tells : goal.returns-in-SpanBegin-clause-tells
returns-in-SpanBegin-clause-tells c =
    let event = c.args.event.now in
    let is : told_at c.args.at event event.phase ≡ to_thread (span_event c.args.at event event.phase) = search rules in
    subst (λ (kept : PhasesKept). TellsPhase (suits_end c.args.strict event) kept (accepted_at c.args.at (an_event event)) c.tell.result (record { spans = c.tell.new.self; asynchronous = c.self.inside.asynchronous; flows = c.self.inside.flows; counters = c.self.inside.counters; meta = c.self.inside.meta })) c.self.view_is
    (TellsPhase-spans (suits_end c.args.strict event) _ _ c.tell.result (span_event c.args.at event event.phase) is c.tell.new.self c.tell.ensures)

pub returns-in-AsyncBegin-clause-tells : goal.returns-in-AsyncBegin-clause-tells
returns-in-AsyncBegin-clause-tells c =
    let event = c.args.event.now in
    let is : told_at c.args.at event event.phase ≡ to_async (async_event event event.phase) = search rules in
    subst (λ (kept : PhasesKept). TellsPhase (suits_end c.args.strict event) kept (accepted_at c.args.at (an_event event)) c.tell_async.result (record { spans = c.self.inside.spans; asynchronous = c.tell_async.new.track; flows = c.self.inside.flows; counters = c.self.inside.counters; meta = c.self.inside.meta })) c.self.view_is
    (TellsPhase-async (suits_end c.args.strict event) _ _ c.tell_async.result (async_event event event.phase) is c.tell_async.new.track c.tell_async.ensures.tells)

pub returns-in-FlowStart-clause-tells : goal.returns-in-FlowStart-clause-tells
returns-in-FlowStart-clause-tells c =
    let event = c.args.event.now in
    let is : told_at c.args.at event event.phase ≡ to_flow (flow_event event event.phase) = search rules in
    subst (λ (kept : PhasesKept). TellsPhase (suits_end c.args.strict event) kept (accepted_at c.args.at (an_event event)) c.tell_flow.result (record { spans = c.self.inside.spans; asynchronous = c.self.inside.asynchronous; flows = c.tell_flow.new.track; counters = c.self.inside.counters; meta = c.self.inside.meta })) c.self.view_is
    (TellsPhase-flow (suits_end c.args.strict event) _ _ c.tell_flow.result (flow_event event event.phase) is c.tell_flow.new.track c.tell_flow.ensures.tells)

pub returns-in-Counter-clause-tells : goal.returns-in-Counter-clause-tells
returns-in-Counter-clause-tells c =
    let event = c.args.event.now in
    subst (λ (kept : PhasesKept). TellsPhase (suits_end c.args.strict event) kept (accepted_at c.args.at (an_event event)) c.tell_counter.result (record { spans = c.self.inside.spans; asynchronous = c.self.inside.asynchronous; flows = c.self.inside.flows; counters = c.tell_counter.new.track; meta = c.self.inside.meta })) c.self.view_is
    (TellsPhase-counter (suits_end c.args.strict event) _ _ c.tell_counter.result event (ap (told_at c.args.at event) c.in-Counter.is) c.tell_counter.new.track c.tell_counter.ensures)

pub returns-in-Meta-clause-tells : goal.returns-in-Meta-clause-tells
returns-in-Meta-clause-tells c =
    let event = c.args.event.now in
    subst (λ (kept : PhasesKept). TellsPhase (suits_end c.args.strict event) kept (accepted_at c.args.at (an_event event)) c.tell_meta.result (record { spans = c.self.inside.spans; asynchronous = c.self.inside.asynchronous; flows = c.self.inside.flows; counters = c.self.inside.counters; meta = c.tell_meta.new.track })) c.self.view_is
    (TellsPhase-meta (suits_end c.args.strict event) _ _ c.tell_meta.result event (ap (told_at c.args.at event) c.in-Meta.is) c.tell_meta.new.track c.tell_meta.ensures)

pub returns-in-Instant-clause-tells : goal.returns-in-Instant-clause-tells
returns-in-Instant-clause-tells c =
    let event = c.args.event.now in
    subst (λ (kept : PhasesKept). TellsPhase (suits_end c.args.strict event) kept (accepted_at c.args.at (an_event event)) c.tell_instant.result (record { spans = c.self.inside.spans; asynchronous = c.self.inside.asynchronous; flows = c.self.inside.flows; counters = c.self.inside.counters; meta = c.tell_instant.new.track })) c.self.view_is
    (TellsPhase-meta (suits_end c.args.strict event) _ _ c.tell_instant.result event (ap (told_at c.args.at event) c.in-Instant.is) c.tell_instant.new.track c.tell_instant.ensures)

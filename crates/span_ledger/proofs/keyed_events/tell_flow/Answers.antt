use Rattle.std.specs.Prelude.{IfOk}
use Rattle.std.proofs.Common.{◌≡◌, ◌+◌, Some, refl, rules, ◌∙◌, subst}
use Rattle.span_journal.specs.declared.entry.Answer.TheVariants.{FlowStep}
use Rattle.span_ledger.specs.{distance, FlowStarted, FlowEnded, started, stepped, finished, flow_chains_at, flow_opened, flow_continued, flow_closed, flow_point, flow_key}
use Rattle.span_ledger.proofs.{FlowAnswers.{FlowEnded-closed, TellsFlow-called}, keyed_events.tell_flow.Goals.{in-FlowStart, in-FlowEnd, in_default-phase}}
use Rattle.span_ledger.proofs.keyed_events.tell_flow.Goals as goal

pub returns-clause-tells : goal.returns-clause-tells
returns-clause-tells c =
    let event = c.args.event.now in
    let chains = flow_chains_at c.args.track.now (flow_key event) in
    elim c.match-event.branch [
      | in-FlowStart w ↦
          rw (w.in-FlowStart.is, w.told-is, w.track-is) (TellsFlow-called c.args.track.now (flow_key event) (started event.ts) w.start_flow.new.self (λ opened. FlowStarted) (flow_opened chains.unclosed) refl w.start_flow.result w.map-told.result _ w.map-told.ensures.cases
          (λ x a is p. (search rules, λ y o. search rules)) (search rules) (search rules) w.start_flow.ensures.err)
      | in-FlowEnd w ↦
          let closes : IfOk w.end_flow.result (λ closed. flow_closed chains event.ts ≡ Some closed) = search rules in
          rw (w.in-FlowEnd.is, w.told-is, w.track-is) (TellsFlow-called c.args.track.now (flow_key event) (finished event.ts) w.end_flow.new.self (λ chain. FlowEnded (chain.points + 1) (distance chain.start event.ts)) (flow_continued chains.unclosed event.ts) refl w.end_flow.result w.map-told-in-FlowEnd.result _ w.map-told-in-FlowEnd.ensures.cases
          (λ x a is p.
          let own : a ≡ FlowEnded x.points x.length = search rules in
          let closed = subst (λ r. IfOk r (λ closed. flow_closed chains event.ts ≡ Some closed)) is closes in
          (search rules, λ chain o. own ∙ FlowEnded-closed chains event.ts x closed chain o))
          (search rules) (search rules) w.end_flow.ensures.err)
      | in_default-phase w ↦
          let point : flow_point event.phase event.ts ≡ stepped event.ts = search rules in
          rw (point, w.told-is, w.track-is) (TellsFlow-called c.args.track.now (flow_key event) (stepped event.ts) w.step_flow.new.self (λ chain. FlowStep) (flow_continued chains.unclosed event.ts) refl w.step_flow.result w.map-told-in_default-phase.result _ w.map-told-in_default-phase.ensures.cases
          (λ x a is p. (search rules, λ y o. search rules)) (search rules) (search rules) w.step_flow.ensures.err)
    ]

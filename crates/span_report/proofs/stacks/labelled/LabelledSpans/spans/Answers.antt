use Rattle.std.proofs.{Common.{◌≡◌, List, length, rules, sym, ap, ap₂, subst, ◌∙◌, to_z, of_z, w64}, lemmas.List.take_at}
use Rattle.span_report.specs.{Thread, Bytes, Span, closed_spans, AreThreadSpans, thread_events, Stacks.Labelled.relabelled}
use Rattle.span_report.proofs.StackLemmas.Labelling.{AreThreadSpans-relabelled}
use Rattle.span_report.proofs.stacks.labelled.LabelledSpans.spans.Goals as goal

pub returns-clause-spans : goal.returns-clause-spans
returns-clause-spans c =
    let count : c.in_ok-spans.spans.len ≡ length c.in_ok-spans.spans.items = search rules in
    let many : length c.put_labels.new.spans ≡ c.in_ok-spans.spans.len = c.put_labels.auto.spans ∙ ap length c.deref_mut.ensures.value ∙ sym count in
    let thread = c.self.inside.thread in
    let pid : to_z w64 (of_z w64 thread.pid) ≡ thread.pid = search rules in
    let tid : to_z w64 (of_z w64 thread.tid) ≡ thread.tid = search rules in
    let spans = c.deref_mut.ensures.value ∙ c.in_ok-spans.ensures.spans
    ∙ ap₂ (λ pid tid. let thread : Thread = record { pid = pid; tid = tid } in closed_spans (thread_events thread c.self.inside.ledger.now.journal)) pid tid in
    take_at c.put_labels.new.spans _ c.in_ok-spans.spans.len many ∙ c.put_labels.ensures
    ∙ ap₂ relabelled c.deref.ensures.value spans ∙ c.self.view_is

pub returns-clause-are : goal.returns-clause-are
returns-clause-are c =
    let count : c.in_ok-spans.spans.len ≡ length c.in_ok-spans.spans.items = search rules in
    let many : length c.put_labels.new.spans ≡ c.in_ok-spans.spans.len = c.put_labels.auto.spans ∙ ap length c.deref_mut.ensures.value ∙ sym count in
    let spans = take_at c.put_labels.new.spans _ c.in_ok-spans.spans.len many ∙ c.put_labels.ensures in
    let are = subst (λ (l : List (Span Bytes)). AreThreadSpans l) (sym c.deref_mut.ensures.value) c.in_ok-spans.ensures.are in
    subst (λ (l : List (Span Bytes)). AreThreadSpans l) (sym spans) (AreThreadSpans-relabelled c.deref.result.now c.deref_mut.result.now are)

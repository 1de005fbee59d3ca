use Rattle.std.proofs.{Common.{◌≡◌, List, length, map, arith, rules, sym, ap, ap₂, ◌∙◌, to_z, of_z, w64}, lemmas.List.length-map}
use Rattle.span_report.specs.{Thread, Bytes, Span, closed_spans, thread_events, Stacks.{Labelled.relabelled, Labels.{by_name, label_of, labelled}}, declared.stacks.label.SpanColumn.SpanColumn}
use Rattle.span_report.proofs.{StackLemmas.Labelling.{labelled-by_name, relabelled-labels}, stacks.labelled.LabelledSpans.of_thread.Goals.{then-are_names, else-are_names+in_ok-spans+in_ok-labels}}
use Rattle.span_report.proofs.stacks.labelled.LabelledSpans.of_thread.Goals as goal

pub invariant_of-result : goal.invariant_of-result
invariant_of-result c =
    let thread = c.args.thread in
    let columns = c.args.columns.now in
    let pid : to_z w64 (of_z w64 thread.pid) ≡ thread.pid = search rules in
    let tid : to_z w64 (of_z w64 thread.tid) ≡ thread.tid = search rules in
    let spans = ap₂ (λ pid tid. let thread : Thread = record { pid = pid; tid = tid } in closed_spans (thread_events thread c.args.ledger.now.journal)) pid tid in
    elim c.if-are_names.branch [
      | then-are_names w ↦ rw w.labels-is (omega (arith, ap (λ (l : List Bytes). length l) w.new-labels.ensures.items))
      | else-are_names+in_ok-spans+in_ok-labels w ↦
          let all = w.deref.ensures.value ∙ w.in_ok-spans.ensures.spans ∙ spans in
          rw w.labels-is (omega (arith, ap (λ (l : List Bytes). length l) w.in_ok-labels.ensures, length-map w.deref.result.now (label_of columns), ap (λ (l : List (Span Bytes)). length l) all))
    ]

pub returns : goal.returns
returns c =
    let thread = c.args.thread in
    let columns = c.args.columns.now in
    let pid : to_z w64 (of_z w64 thread.pid) ≡ thread.pid = search rules in
    let tid : to_z w64 (of_z w64 thread.tid) ≡ thread.tid = search rules in
    let closed = closed_spans (thread_events thread c.args.ledger.now.journal) in
    let spans = ap₂ (λ pid tid. let thread : Thread = record { pid = pid; tid = tid } in closed_spans (thread_events thread c.args.ledger.now.journal)) pid tid in
    elim c.if-are_names.branch [
      | then-are_names w ↦
          let names : columns ≡ by_name = c.are_names.ensures.0 w.if-are_names.true in
          rw w.labels-is (ap (λ (l : List Bytes). relabelled l closed) w.new-labels.ensures.items ∙ sym (labelled-by_name closed) ∙ ap (λ (cs : List SpanColumn). labelled cs closed) (sym names))
      | else-are_names+in_ok-spans+in_ok-labels w ↦
          let all = w.deref.ensures.value ∙ w.in_ok-spans.ensures.spans ∙ spans in
          let labels = w.in_ok-labels.ensures ∙ ap (λ (l : List (Span Bytes)). map (label_of columns) l) all in
          rw w.labels-is (ap (λ (l : List Bytes). relabelled l closed) labels ∙ relabelled-labels columns closed)
    ]

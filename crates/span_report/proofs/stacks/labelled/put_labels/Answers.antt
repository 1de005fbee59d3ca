use Rattle.std.proofs.Common.{List, add-one, get_or, slice_set, sym, ap, ◌∙◌, take}
use Rattle.span_report.specs.{Bytes, Span, Stacks.{Labelled.relabelled, Labels.named_by}}
use Rattle.span_report.proofs.StackLemmas.Labelling.{relabelled-set}
use Rattle.span_report.proofs.stacks.labelled.put_labels.Goals as goal

pub loop-i-preserved : goal.loop-i-preserved
loop-i-preserved c =
    let labels = c.args.labels.now in
    let spans = c.args.spans.now in
    let i = c.loop-i.i in
    let label = c.index-labels-i.result in
    let s = c.index-spans-i.result in
    let found = c.index-spans-i.is ∙ ap (λ (l : List (Span Bytes)). get_or l i s) c.loop-i.invariant in
    ap (λ (x : Span Bytes). slice_set c.loop-i.spans i (named_by label x)) (c.span.view_is ∙ sym c.index-spans-i.is)
    ∙ ap (λ (l : List (Span Bytes)). slice_set l i (named_by label s)) c.loop-i.invariant
    ∙ relabelled-set labels spans i label s c.loop-i-test.true c.requires c.index-labels-i.is found
    ∙ ap (λ n. relabelled (take n labels) spans) (sym (add-one i))

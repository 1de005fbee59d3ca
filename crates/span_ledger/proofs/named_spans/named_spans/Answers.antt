use Rattle.std.specs.Option.{option_to_list}
use Rattle.std.proofs.Common.{◌≡◌, ◌++◌, ◌+◌, map, take, sym, ap, ap₂, ◌∙◌, append-nil}
use Rattle.span_ledger.specs.{span_of, Named.{named_span, named_spans}}
use Rattle.span_ledger.proofs.{NamedSpans.named_spans-more, named_spans.named_spans.Goals.{in-Some+in_ok-push, in_default}}
use Rattle.span_ledger.proofs.named_spans.named_spans.Goals as goal

pub loop-span-preserved : goal.loop-span-preserved
loop-span-preserved c =
    let names = c.args.names.now in
    let spans = c.spans-spans.result.now in
    let i = c.loop-span.span-index in
    let before = named_spans names (map span_of (take i spans)) in
    let more : named_spans names (map span_of (take (i + 1) spans)) ≡ before ++ option_to_list (named_span names (span_of c.span-item.result)) = named_spans-more names spans i c.span-item.result c.loop-span-test.true c.span-item.is in
    elim c.match-named_span.branch [
      | in-Some+in_ok-push w ↦ rw w.named-is (w.in_ok-push.ensures.items ∙ ap₂ (λ l o. l ++ option_to_list o) c.loop-span.invariant w.in-Some.ensures ∙ sym more)
      | in_default w ↦ rw w.named-is (c.loop-span.invariant ∙ sym (append-nil before) ∙ ap (λ o. before ++ option_to_list o) w.in_default.ensures ∙ sym more)
    ]

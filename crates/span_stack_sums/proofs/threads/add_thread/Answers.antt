use Rattle.std.specs.Prelude.{Err}
use Rattle.std.proofs.Common.{◌≡◌, ◌<◌, List, Some, None, rules, subst}
use Rattle.span_report.specs.{Span, Stacks.{Bounds.frame_count, Labels.labelled_spans}}
use Rattle.span_stack_sums.specs.{Bytes, TooLarge, holder_name, most_names}
use Rattle.span_stack_sums.proofs.Deep.{Exceeds-frames}
use Rattle.span_stack_sums.proofs.threads.add_thread.Goals as goal

-- each frame stands in a stack, so there are too many labels
pub returns-in_err-frames-clause-full : goal.returns-in_err-frames-clause-full
returns-in_err-frames-clause-full c = λ large.
    let journal = c.args.ledger.now.journal in
    let thread = c.args.thread in
    let failed : c.framed_stacks.result ≡ Err TooLarge = search rules in
    Exceeds-frames (holder_name journal (thread.pid, None)) (holder_name journal (thread.pid, Some thread.tid)) (labelled_spans c.args.columns.now journal thread) c.args.rows.now
    (subst (λ (spans : List (Span Bytes)). most_names < frame_count spans) c.in_ok-spans.ensures (c.framed_stacks.ensures.full failed))

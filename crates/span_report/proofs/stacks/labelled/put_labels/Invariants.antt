use Rattle.std.proofs.Common.{◌≡◌, take}
use Rattle.span_report.specs.Stacks.Labelled.{relabelled}
use Rattle.span_report.proofs.stacks.labelled.put_labels.Given as goal

-- so many of the spans have their labels
abbrev pub invariant-loop-i : goal.invariant-loop-i
invariant-loop-i l = l.spans ≡ relabelled (take l.i l.labels) l.fn.spans

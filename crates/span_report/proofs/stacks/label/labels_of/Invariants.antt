use Rattle.std.proofs.Common.{◌≡◌, map, take}
use Rattle.span_report.specs.Stacks.Labels.{label_of}
use Rattle.span_report.proofs.stacks.label.labels_of.Given as goal

-- the labels of the spans so far
abbrev pub invariant-loop-span : goal.invariant-loop-span
invariant-loop-span l = l.labels.items ≡ map (label_of l.columns) (take l.span-index l.spans)

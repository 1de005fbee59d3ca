use Rattle.std.proofs.Common.{◌≡◌, map, take}
use Rattle.span_request.specs.Tasks.{merged_label}
use Rattle.span_request.proofs.columns.asked_labels.Given as goal

-- the labels so far
abbrev pub invariant-loop-label : goal.invariant-loop-label
invariant-loop-label l = l.merged.items ≡ map merged_label (take l.label-index l.label-items)

use Rattle.std.proofs.Common.{◌≡◌, take}
use Rattle.std.specs.Prelude.{filter_map}
use Rattle.span_request.specs.Tasks.{label_of}
use Rattle.span_request.proofs.columns.labels_of.Given as goal

-- the labels so far
abbrev pub invariant-loop-column : goal.invariant-loop-column
invariant-loop-column l = l.labels.items ≡ filter_map label_of (take l.column-index l.columns)

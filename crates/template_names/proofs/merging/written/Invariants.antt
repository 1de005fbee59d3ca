use Rattle.std.proofs.Common.{◌≡◌, length}
use Rattle.template_names.specs.{Merged.merged, Writing.{IsReady, outcome}}
use Rattle.template_names.proofs.merging.written.Given as goal

-- what is written in the end, once the marks are written that are left
abbrev pub invariant-loop-mark : goal.invariant-loop-mark
invariant-loop-mark l = record { ready : IsReady l.writer; same : outcome l.writer l.marks ≡ merged l.text }

abbrev pub decreases-loop-mark : goal.decreases-loop-mark
decreases-loop-mark l = length l.marks

use Rattle.std.proofs.Common.{◌≡◌, ◌+◌, ◌≤◌, true, length}
use Rattle.template_names.specs.Merged.{merged}
use Rattle.template_names.proofs.MarkLemmas.{none_closes}
use Rattle.template_names.proofs.merging.has_match.Given as goal

-- where none closes of the marks that are left, nothing merges
abbrev pub invariant-loop-mark : goal.invariant-loop-mark
invariant-loop-mark l = record {
  rest : none_closes l.depth l.marks ≡ true → merged l.text ≡ l.text;
  few : l.depth + length l.marks ≤ length l.text;
}

abbrev pub decreases-loop-mark : goal.decreases-loop-mark
decreases-loop-mark l = length l.marks

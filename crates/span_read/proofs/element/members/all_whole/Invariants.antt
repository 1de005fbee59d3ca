use Rattle.std.proofs.Common.{◌≡◌, drop}
use Rattle.span_read.specs.{all_whole}
use Rattle.span_read.proofs.element.members.all_whole.Given as goal

-- the values passed so far are whole
abbrev pub invariant-loop-value : goal.invariant-loop-value
invariant-loop-value l = all_whole l.value-items ≡ all_whole (drop l.value-index l.value-items)

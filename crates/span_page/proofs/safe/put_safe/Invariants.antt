use Rattle.std.proofs.Common.{◌≡◌, ◌++◌, length}
use Rattle.span_page.specs.Safe.{safe}
use Rattle.span_page.proofs.safe.put_safe.Given as goal

-- what is appended, and then what stands for the rest, is what stands for all
abbrev pub invariant-loop-rest : goal.invariant-loop-rest
invariant-loop-rest l = l.out.items ++ safe l.rest ≡ l.fn.out.items ++ safe l.fn.text

abbrev pub decreases-loop-rest : goal.decreases-loop-rest
decreases-loop-rest l = length l.rest

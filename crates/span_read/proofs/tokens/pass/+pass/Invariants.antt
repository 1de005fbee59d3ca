use Rattle.std.specs.Prelude.{⊤}
use Rattle.std.proofs.Common.{◌+◌, ◌*◌, ◌-◌, length}
use Rattle.span_read.specs.Tokens.{ItemsSoFar, MembersSoFar}
use Rattle.span_read.proofs.tokens.pass.+pass.Given as goal

abbrev pub decreases-pass_value : goal.decreases-pass_value
decreases-pass_value l = 3 * l.depth + 2

abbrev pub decreases-pass_begun : goal.decreases-pass_begun
decreases-pass_begun l = 3 * l.depth + 1

abbrev pub decreases-pass_array : goal.decreases-pass_array
decreases-pass_array l = 3 * l.depth

abbrev pub decreases-pass_object : goal.decreases-pass_object
decreases-pass_object l = 3 * l.depth

abbrev pub invariant-pass_array-items : goal.invariant-pass_array-items
invariant-pass_array-items l = ItemsSoFar (l.depth - 1) l.initial.reader l.reader (λ ds. ⊤)

abbrev pub decreases-pass_array-items : goal.decreases-pass_array-items
decreases-pass_array-items l = length l.reader

abbrev pub invariant-pass_object-members : goal.invariant-pass_object-members
invariant-pass_object-members l = MembersSoFar (l.depth - 1) l.initial.reader l.reader (λ ms. ⊤)

abbrev pub decreases-pass_object-members : goal.decreases-pass_object-members
decreases-pass_object-members l = length l.reader

use Rattle.std.proofs.Common.{◌≡◌, ◌-◌, length}
use Rattle.span_read.specs.Tokens.{MembersSoFar}
use Rattle.span_read.proofs.tokens.kept.read_members.Given as goal

abbrev pub invariant-members : goal.invariant-members
invariant-members g l = MembersSoFar (l.depth - 1) l.initial.tokens.reader l.tokens.reader (λ ms. l.kept ≡ g.K.KeptMembers.of ms)

abbrev pub decreases-members : goal.decreases-members
decreases-members g l = length l.tokens.reader

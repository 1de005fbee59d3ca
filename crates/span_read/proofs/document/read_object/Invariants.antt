use Rattle.std.proofs.Common.{◌≡◌, ◌-◌, length}
use Rattle.serde_json.specs.Data.{object}
use Rattle.span_read.specs.{Divided.{left_of, IsRead, IsWhole}, Document.{elements_of, doc_of_elements}, Tokens.MembersSoFar}
use Rattle.span_read.proofs.document.read_object.Given as goal

-- the last of the members so far counts
abbrev pub invariant-members : goal.invariant-members
invariant-members l =
    MembersSoFar (l.depth - 1) (left_of l.initial.text) (left_of l.text) (λ ms. l.found ≡ doc_of_elements l.format (elements_of (object ms)))
    × (IsWhole l.initial.text → IsWhole l.text) × IsRead l.text

abbrev pub decreases-members : goal.decreases-members
decreases-members l = length (left_of l.text)

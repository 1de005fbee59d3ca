use Rattle.std.proofs.Common.{◌≡◌, ◌++◌, append-nil, sym, ap, subst, ◌∙◌}
use Rattle.serde_json.specs.View.{members_view}
use Rattle.span_read.specs.{IsInNameOrder, Fields.pairs_of}
use Rattle.span_read.proofs.NameOrder.{IsInNameOrder-pairs_of}
use Rattle.span_read.proofs.value_fields.args_of_members.Goals as goal

pub of_pairs-requires : goal.of_pairs-requires
of_pairs-requires c =
    let pairs = c.loop-name.pairs.items in
    let entries = c.args.members.now.entries in
    let all : pairs ≡ pairs_of (members_view entries) =
    sym (append-nil pairs) ∙ ap (λ left. pairs ++ pairs_of (members_view left)) (sym c.in-None.ensures.steps.0) ∙ c.loop-name.invariant in
    subst IsInNameOrder (sym all) (IsInNameOrder-pairs_of entries c.len.ensures.ordered)

use Rattle.std.proofs.Common.{◌≡◌, ◌++◌}
use Rattle.serde_json.specs.View.{members_view}
use Rattle.span_read.specs.Fields.{pairs_of}
use Rattle.span_read.proofs.value_fields.args_of_members.Given as goal

-- the pairs so far, and those of the members that are left, are the whole
abbrev pub invariant-loop-name : goal.invariant-loop-name
invariant-loop-name l = l.pairs.items ++ pairs_of (members_view l.name-iterator) ≡ pairs_of (members_view l.members.entries)

use Rattle.std.proofs.Common.{◌≡◌, ◌-◌, Some, arith}
use Rattle.json.specs.Json.{read_key}
use Rattle.span_read.proofs.{Grammar.data_at-too_deep_object, Turns.{members_smaller, members_start, members_turn, members_key_refused, members_value_refused, members_finish}}
use Rattle.span_read.proofs.tokens.kept.read_members.Goals as goal

pub returns-then-depth-eq0-clause-refused : goal.returns-then-depth-eq0-clause-refused
returns-then-depth-eq0-clause-refused g c = λ no. data_at-too_deep_object c.args.depth c.args.tokens.now.reader c.if-depth-eq0.true

pub members-init : goal.members-init
members-init g c = members_start (c.args.depth - 1) c.args.tokens.now.reader (λ ms. c.args.kept.now ≡ g.K.KeptMembers.of ms) c.requires

pub returns-in_err-name-clause-refused : goal.returns-in_err-name-clause-refused
returns-in_err-name-clause-refused g c = λ no.
    members_key_refused c.args.depth (omega arith) _ c.args.tokens.now.reader c.members.tokens.reader c.members.invariant c.in_err-name.ensures.value

pub members-smaller : goal.members-smaller
members-smaller g c =
    let named : read_key c.members.tokens.reader ≡ Some (Some c.in-Some.name.now, c.next_key.new.self) = grind arith in
    members_smaller (c.args.depth - 1) _ _ _ _ _ named c.in_ok-keep.ensures.kept

pub members-preserved : goal.members-preserved
members-preserved g c =
    let named : read_key c.members.tokens.reader ≡ Some (Some c.in-Some.name.now, c.next_key.new.self) = grind arith in
    let taken = c.in_ok-keep.ensures.kept in
    members_turn c.args.depth (omega arith) _ c.args.tokens.now.reader c.members.tokens.reader c.members.invariant _ _ _ _ named (taken.0, taken.1, taken.2 c.members.invariant.before c.members.invariant.holds)

pub returns-in_err-keep-clause-refused : goal.returns-in_err-keep-clause-refused
returns-in_err-keep-clause-refused g c = λ no.
    let named : read_key c.members.tokens.reader ≡ Some (Some c.in-Some.name.now, c.next_key.new.self) = grind arith in
    members_value_refused c.args.depth (omega arith) _ c.args.tokens.now.reader c.members.tokens.reader c.members.invariant _ _ named (c.keep.ensures.refused (grind arith))

pub returns-clause-kept : goal.returns-clause-kept
returns-clause-kept g c = members_finish c.args.depth (omega arith) _ c.args.tokens.now.reader c.members.tokens.reader c.members.invariant c.next_key.new.self (grind arith)

use Rattle.std.proofs.{Common.{Some, sym, subst, arith}, lemmas.Int.ints}
use Rattle.span_self_time.specs.Division.{Owners, owner_of, taken, Lone.IsLone, SegmentStacks.AreSegmentStacks}
use Rattle.span_self_time.proofs.{Lone.{nobody, AreSettled-nobody, IsNew-nobody}, Owners.taken-empty, division.lone.with_span.Goals.In_ok-add}
use Rattle.span_self_time.proofs.division.lone.with_span.Goals as goal

pub returns-then-span : goal.returns-then-span
returns-then-span c = λ owners is new settled.
    subst (λ (o : Owners). IsLone o c.args.lone) (taken-empty (owner_of c.args.span.now) owners (omega (arith, ints, c.if-span.true))) is

-- the stacks of the first span are those of its owners
first : (c : In_ok-add) (owners : Owners) → IsLone owners c.args.lone → AreSegmentStacks owners c.add.new.self
first c owners is =
    let alone : IsLone owners (Some c.in-Some.owned) = subst (IsLone owners) c.in-Some.is is in
    subst (λ (o : Owners). AreSegmentStacks o c.add.new.self) (sym alone.taken_all) (c.in_ok-add.ensures.ok nobody c.new-stacks.ensures (IsNew-nobody (owner_of c.in-Some.owned)) AreSettled-nobody)

pub add-requires-2 : goal.add-requires-2
add-requires-2 c =
    let at = (goal.at.add-requires-2 c).In_ok-add in
    let is = c.requires.is in
    record { is = record { owners = is.owners; holds = (first at is.owners is.holds.0, is.holds.1, is.holds.2) }; forward = c.requires.forward; in_time = c.requires.in_time }

pub returns : goal.returns
returns c = λ owners is new settled.
    let at = (goal.at.returns c).In_ok-add in
    subst (AreSegmentStacks (taken (owner_of c.args.span.now) owners)) (sym c.in_ok-stacks.ensures.ok) (c.in_ok-add-2.ensures.ok owners (first at owners is) new settled)

use Rattle.std.proofs.{Common.{◌≡◌, ◌∷◌, [], ◌++◌, length, All, refl, ap, sym, subst, ◌∙◌, append_assoc, length-append, arith}, lemmas.List.Elements.{All-head, All-tail}}
use Rattle.span_collect.specs.{IsGoodItem, One, Account.telling, Work.HasRecorded}
use Rattle.span_collect.proofs.Recording.{HasRecorded-next, HasRecorded-keeps, IsWorked-read, IsWorked-stopped, telling-next}
use Rattle.span_collect.proofs.worker.tell_all.Goals as goal

-- nothing was told
pub items-init : goal.items-init
items-init g c =
    let all = c.into_remaining-remaining.ensures in
    record {
      told = [];
      all = all;
      done = refl;
      recorded = c.requires.new;
      named = c.number-caller.ensures;
      good = subst (All IsGoodItem) (sym all) c.requires.good;
    }

pub tell-requires-clause-seat : goal.tell-requires-clause-seat
tell-requires-clause-seat g c = c.items.invariant.recorded.sound

pub tell-requires-clause-good : goal.tell-requires-clause-good
tell-requires-clause-good g c = All-head IsGoodItem c.in-Some.item c.next.new.self (rw c.in-Some.ensures.first at c.items.invariant.good)

-- this item was not taken
pub returns-in-Err : goal.returns-in-Err
returns-in-Err g c =
    let invariant = c.items.invariant in
    let kept = HasRecorded-keeps c.args.share.now (telling invariant.told) c.items.seat c.tell.new.seat invariant.recorded c.in-Err.ensures.told.seat c.in-Err.ensures.told.kept in
    IsWorked-stopped c.args.share.now c.number-caller.result c.tell.new.seat (invariant.named ∙ sym c.in-Err.ensures.told.kept.number) c.args.items invariant.told c.next.new.self c.in-Some.item c.items.done c.in-Err.back.cause
    kept (rw c.in-Some.ensures.first at invariant.all) invariant.done c.in-Err.ensures.cause c.in-Err.ensures.told.cause

-- a file has few items
pub overflow_add-done : goal.overflow_add-done
overflow_add-done g c =
    let invariant = c.items.invariant in
    let rest = c.next.new.self in
    let all : invariant.told ++ c.in-Some.item ∷ rest ≡ c.args.items = rw c.in-Some.ensures.first at invariant.all in
    omega (arith, invariant.done, ap length all, length-append invariant.told (c.in-Some.item ∷ rest), c.requires.few)

-- the item was told
pub items-preserved : goal.items-preserved
items-preserved g c =
    let invariant = c.items.invariant in
    let rest = c.next.new.self in
    let first = c.in-Some.ensures.first in
    let told = c.in_default-tell.ensures.told in
    let next = HasRecorded-next c.args.share.now (telling invariant.told) (One c.in-Some.item) c.in_default-tell.field-0 c.items.seat c.tell.new.seat invariant.recorded told.seat told.recorded in
    record {
      told = invariant.told ++ c.in-Some.item ∷ [];
      all = append_assoc invariant.told (c.in-Some.item ∷ []) rest ∙ ap (λ items. invariant.told ++ items) (sym first) ∙ invariant.all;
      done = omega (arith, invariant.done, length-append invariant.told (c.in-Some.item ∷ []));
      recorded = subst (λ ops. HasRecorded c.args.share.now ops c.tell.new.seat) (telling-next invariant.told c.in-Some.item) next;
      named = invariant.named ∙ sym told.recorded.number;
      good = All-tail IsGoodItem c.in-Some.item rest (rw first at invariant.good);
    }

-- all items were told
pub returns : goal.returns
returns g c =
    let invariant = c.items.invariant in
    IsWorked-read c.args.share.now c.number-caller.result c.items.seat invariant.named c.args.items invariant.told c.items.done invariant.recorded (rw c.in_default.ensures.none at invariant.all) invariant.done

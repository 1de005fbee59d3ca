use Rattle.std.proofs.{Common.{◌∷◌, [], length, All, IfSome, refl, ap, sym, subst, ◌∙◌, length-append, arith}, lemmas.List.Elements.All-push}
use Rattle.span_collect.specs.{IsSeatOf, Work.IsNewSeat}
use Rattle.span_collect.proofs.Recording.{enrolled}
use Rattle.span_collect.proofs.workers.enrol_all.Goals as goal

pub loop-init : goal.loop-init
loop-init g c = record {
  same = refl;
  count = ap length c.in_ok-seats.ensures.items;
  room = c.in_ok-seats.ensures.capacity;
  new = subst (All (λ seat. IfSome seat (IsNewSeat c.args.share.now))) (sym c.in_ok-seats.ensures.items) (λ k d lt. absurd (omega (arith, lt)));
}

pub enrol-requires : goal.enrol-requires
enrol-requires g c = subst (IsSeatOf c.args.share.now) (sym c.loop.invariant.same) c.requires

pub push_reserved-requires : goal.push_reserved-requires
push_reserved-requires g c = omega (arith, c.loop.invariant.count, c.loop.invariant.room, c.loop-test.true)

pub loop-preserved : goal.loop-preserved
loop-preserved g c =
    let invariant = c.loop.invariant in
    let new = enrolled c.args.share.now c.loop.main c.enrol.result c.enrol.ensures.seat c.enrol.ensures.new in
    let one : IfSome c.ok.result (IsNewSeat c.args.share.now) = rw c.ok.ensures.value new in
    record {
      same = c.enrol.ensures.same ∙ invariant.same;
      count = omega (arith, ap length c.push_reserved.ensures.items, length-append c.loop.seats.items (c.ok.result ∷ []), invariant.count);
      room = omega (arith, invariant.room, c.push_reserved.ensures.capacity);
      new = rw c.push_reserved.ensures.items (All-push (λ seat. IfSome seat (IsNewSeat c.args.share.now)) c.loop.seats.items c.ok.result invariant.new one);
    }

pub returns-clause-same : goal.returns-clause-same
returns-clause-same g c = c.loop.invariant.same

pub returns-clause-count : goal.returns-clause-count
returns-clause-count g c = omega (arith, c.loop.invariant.count, c.loop-test.false, c.loop.auto.counter-end)

pub returns-clause-new : goal.returns-clause-new
returns-clause-new g c = c.loop.invariant.new

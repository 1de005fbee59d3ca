use Rattle.std.proofs.Common.{subst}
use Rattle.span_event.specs.declared.event.Phase.{Phase}
use Rattle.span_event.specs.Event.{IsGood, IsGoodAt}
use Rattle.span_event.specs.Item.{IsGoodItem}
use Rattle.bench_tracking.proofs.step.add.Goals as goal

pub invariant_of-push : goal.invariant_of-push
invariant_of-push c =
    let event = c.in-Good.event in
    let good : IsGood event = subst IsGoodItem c.in-Good.is c.requires in
    record {
      in_time = good.in_time;
      lasts = λ whole. (subst (λ (p : Phase). IsGoodAt p event) whole good.by_phase).0;
    }

use Rattle.std.proofs.lemmas.List.Elements.{All-tail}
use Rattle.span_event.specs.Item.{IsGoodItem}
use Rattle.bench_tracking.proofs.step.steps_of.Goals as goal

-- the item that was added is the first of those that were left
pub loop-item-preserved : goal.loop-item-preserved
loop-item-preserved c = All-tail IsGoodItem c.in-Some.item _ (rw c.in-Some.ensures.steps.0 at c.loop-item.invariant)

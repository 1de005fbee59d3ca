use Rattle.std.proofs.Common.{arith}
use Rattle.span_ledger_tests.proofs.Placed.{IsPlaced-told}
use Rattle.span_ledger_tests.proofs.tests.placed.Placed.complete.Goals as goal

pub invariant_of-self : goal.invariant_of-self
invariant_of-self g c =
    IsPlaced-told c.self.inside.next c.self.inside.track c.self.invariant c.complete.result _ c.complete.new.self (omega arith) c.complete.ensures.stands c.complete.ensures.err

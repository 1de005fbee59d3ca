use Rattle.std.proofs.Common.{arith}
use Rattle.span_ledger_tests.proofs.Placed.{IsNext-IsPlaced, HasRoom-IsPlaced}
use Rattle.span_ledger_tests.proofs.tests.placed.expect_few.Goals as goal

pub returns-clause-room : goal.returns-clause-room
returns-clause-room g c = HasRoom-IsPlaced c.args.next c.args.track.now c.requires (omega arith)

pub returns-clause-free : goal.returns-clause-free
returns-clause-free g c = IsNext-IsPlaced c.args.next c.args.track.now c.requires

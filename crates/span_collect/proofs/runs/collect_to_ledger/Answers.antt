use Rattle.span_collect.proofs.InTurn.Accounted.{AreAlike-in_turn}
use Rattle.span_collect.proofs.runs.collect_to_ledger.Goals as goal

-- the journal is like that of the files in turn
pub returns-clause-in_turn : goal.returns-clause-in_turn
returns-clause-in_turn g c = λ separate below.
    let outcome = c.in-Ok.outcome in
    let status = rw c.deref.ensures.value at c.exit_status-status.ensures in
    AreAlike-in_turn c.args.files.now c.args.asks.now c.args.settings.now outcome.files.items outcome.asked outcome.sealing outcome.ledger.journal c.in-Ok.ensures.accounts separate
    (rw status at below)

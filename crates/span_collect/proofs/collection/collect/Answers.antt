use Rattle.std.proofs.Common.{◌≡◌, Bool, ℕ, sym, subst, ◌∙◌, arith}
use Rattle.span_collect.specs.{IsLegal, Seals.SealsAfter}
use Rattle.span_collect.proofs.{InTurn.Accounted.SealedAccount-answers, Settling.{limit_is, strict_is, IsClosed-few, IsClosed-accounts, IsClosed-more}}
use Rattle.span_collect.proofs.collection.collect.Goals as goal

-- the calls are within the limit
pub count_calls-calls-requires : goal.count_calls-calls-requires
count_calls-calls-requires g c =
    rw c.deref.ensures.value (omega (arith, IsClosed-few _ _ _ _ _ _ c.in-Ok.ensures.closed, c.collect_unsettled.ensures.small))

-- as many entries as calls
pub returns-clause-accounts : goal.returns-clause-accounts
returns-clause-accounts g c =
    let calls = rw c.deref.ensures.value at c.count_calls-calls.ensures in
    let closed = c.in-Ok.ensures.closed in
    let limit_is : c.in-Ok.outcome.ledger.limit ≡ c.args.settings.now.limit = closed.closes.limit ∙ limit_is _ _ _ _ _ _ closed in
    let strict_is : c.in-Ok.outcome.ledger.strict ≡ c.args.settings.now.strict = strict_is _ _ _ _ _ _ closed in
    let after = c.seal_open_spans-outcome.ensures in
    let lawful = after.lawful c.len-entries.ensures.lawful in
    record {
      told = c.in-Ok.outcome.ledger.journal;
      account = IsClosed-accounts _ _ _ _ _ _ closed (sym c.len-entries.ensures.length ∙ c.if-entries-calls.false ∙ calls);
      seals = subst (λ (t : Bool × ℕ). SealsAfter c.args.settings.now.seal t.0 t.1 c.in-Ok.outcome.ledger.journal c.seal_open_spans-outcome.new.ledger.journal c.seal_open_spans-outcome.result) (λ i. (strict_is i, limit_is i)) after.sealed;
      legal = subst (λ b. IsLegal b c.seal_open_spans-outcome.new.ledger.journal) (after.strict ∙ strict_is) lawful.legal;
      within_limit = omega (arith, lawful.within, after.limit, limit_is);
    }

-- more entries than calls
pub returns-then-entries-calls-clause-refused : goal.returns-then-entries-calls-clause-refused
returns-then-entries-calls-clause-refused g c =
    let calls = rw c.deref.ensures.value at c.count_calls-calls.ensures in
    rw (c.len-entries.ensures.length, calls) (IsClosed-more _ _ _ _ _ _ c.in-Ok.ensures.closed (λ same. c.if-entries-calls.true (c.len-entries.ensures.length ∙ same ∙ sym calls)))

-- the answers are those of the files in turn
pub returns-clause-in_turn : goal.returns-clause-in_turn
returns-clause-in_turn g c = SealedAccount-answers _ _ _ _ _ _ _ (returns-clause-accounts g c)

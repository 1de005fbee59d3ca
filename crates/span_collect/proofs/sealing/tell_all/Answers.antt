use Rattle.std.proofs.Common.{rules, ◌≡◌, [], ◌∷◌, ◌++◌, length, sym, ap, ◌∙◌, arith, append_assoc, length-append}
use Rattle.span_collect.specs.{next_entry}
use Rattle.span_collect.proofs.SealEntries.{with_seals-push}
use Rattle.span_collect.proofs.sealing.tell_all.Goals as goal

pub loop-seal-preserved : goal.loop-seal-preserved
loop-seal-preserved c =
    let at = c.loop-seal in
    let seal = c.in-Some.seal in
    let added : c.apply.new.self.journal ≡ at.ledger.journal ++ next_entry c.args.ledger.now.strict at.ledger.journal 0 seal ∷ [] =
    c.in_default.ensures.added ∙ ap (λ op. at.ledger.journal ++ next_entry at.ledger.strict at.ledger.journal 0 op ∷ []) c.to_op.ensures
    ∙ ap (λ b. at.ledger.journal ++ next_entry b at.ledger.journal 0 seal ∷ []) at.invariant.strict in
    record {
      added = added ∙ ap (λ journal. journal ++ next_entry c.args.ledger.now.strict journal 0 seal ∷ []) at.invariant.added ∙ sym (with_seals-push c.args.ledger.now.strict c.args.ledger.now.journal at.yielded seal);
      left = append_assoc at.yielded (seal ∷ []) _ ∙ ap (λ l. at.yielded ++ l) (sym c.in-Some.ensures.steps.0) ∙ at.invariant.left;
      len = search rules;
      count = omega (arith, at.invariant.count, length-append at.yielded (seal ∷ []));
      few = omega (arith, at.invariant.few, ap length added, length-append at.ledger.journal (next_entry c.args.ledger.now.strict at.ledger.journal 0 seal ∷ []));
      limit = c.in_default.ensures.limit ∙ at.invariant.limit;
      strict = c.in_default.ensures.strict ∙ at.invariant.strict;
      lawful = λ before. c.in_default.ensures.lawful;
    }

use Rattle.std.specs.Vec.Iter.{into_iter_items, into_iter_len}
use Rattle.std.proofs.Common.{◌≡◌, ◌≤◌, ◌++◌, length}
use Rattle.span_collect.specs.{IsLawful, Seals.with_seals}
use Rattle.span_collect.proofs.sealing.tell_all.Given as goal

-- the seals that were told stand in the journal, and the others are left
abbrev pub invariant-loop-seal : goal.invariant-loop-seal
invariant-loop-seal l = record {
  added : l.ledger.journal ≡ with_seals l.fn.ledger.strict l.fn.ledger.journal l.yielded;
  left : l.yielded ++ into_iter_items l.seal-iterator ≡ into_iter_items l.initial.seal-iterator;
  len : into_iter_len l.seal-iterator ≡ length (into_iter_items l.seal-iterator);
  count : l.done ≡ length l.yielded;
  few : l.done ≤ length l.ledger.journal;
  limit : l.ledger.limit ≡ l.fn.ledger.limit;
  strict : l.ledger.strict ≡ l.fn.ledger.strict;
  lawful : IsLawful l.fn.ledger → IsLawful l.ledger;
}

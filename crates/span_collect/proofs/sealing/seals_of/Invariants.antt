use Rattle.std.specs.Prelude.{filter_map}
use Rattle.std.proofs.Common.{◌≡◌, take, All}
use Rattle.span_collect.specs.{IsGoodOp, Seals.seal_for}
use Rattle.span_collect.proofs.sealing.seals_of.Given as goal

-- the seals of the threads so far
abbrev pub invariant-loop-row : goal.invariant-loop-row
invariant-loop-row l = record {
  seals : l.seals.items ≡ filter_map (seal_for l.ledger.journal) (take l.row-index l.row-items);
  good : All IsGoodOp l.seals.items;
}

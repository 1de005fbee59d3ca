use Rattle.std.proofs.Common.{◌≡◌, ◌≤◌, map, take}
use Rattle.span_comparisons.specs.{Sides.ClassifiesSpreads, Spreads.spreads_at}
use Rattle.span_comparisons.proofs.repeated.classify_all.Given as goal

-- the keys so far are classified
abbrev pub invariant-loop-key : goal.invariant-loop-key
invariant-loop-key l = record {
  base : l.base.tables ≡ l.fn.base;
  other : l.other.tables ≡ l.fn.other;
  classified : ClassifiesSpreads (map (λ key. spreads_at l.fn.by l.fn.base l.fn.other key.now) (take l.key-index l.keys)) l.found.apart.items l.found.overlap l.found.same;
  overlaps : l.found.overlap ≤ l.key-index;
  sames : l.found.same ≤ l.key-index;
}

use Rattle.std.proofs.Common.{◌≡◌, length, take}
use Rattle.span_comparisons.specs.Spreads.{values_at}
use Rattle.span_comparisons.proofs.sides.Side.look_up.Given as goal

-- the values in the tables so far
abbrev pub invariant-loop-i : goal.invariant-loop-i
invariant-loop-i l = record {
  tables : l.self-inside.tables.now ≡ l.fn.self.tables;
  places : length l.self-inside.places.items ≡ length l.fn.self.tables;
  values : l.self-inside.values.items ≡ values_at l.fn.by (take l.i l.fn.self.tables) l.fn.key;
}

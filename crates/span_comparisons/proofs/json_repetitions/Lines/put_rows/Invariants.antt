use Rattle.std.specs.List.{list_all}
use Rattle.std.proofs.Common.{◌≡◌, ◌++◌, true, map, flat_map, take}
use Rattle.span_comparisons.specs.Repeats.{json_values_at, key_fits}
use Rattle.span_comparisons.proofs.json_repetitions.Lines.put_rows.Given as goal

-- the lines of the keys so far
abbrev pub invariant-loop-key : goal.invariant-loop-key
invariant-loop-key l = record {
  base : l.base.tables ≡ l.fn.base;
  other : l.other.tables ≡ l.fn.other;
  text : l.out.items ≡ l.fn.out.items ++ flat_map (json_values_at l.self.by l.self.columns.now l.fn.base l.fn.other) (map (λ key. key.now) (take l.key-index l.keys));
  fits : list_all (key_fits l.self.by l.fn.base l.fn.other) (map (λ key. key.now) (take l.key-index l.keys)) ≡ true;
}

use Rattle.std.proofs.Common.{◌≡◌, ◌++◌, string_bytes, take, flat_map}
use Rattle.span_comparisons.specs.Repeats.{spread_line}
use Rattle.span_comparisons.proofs.repetitions.put_lines.Given as goal

-- the lines of those so far
abbrev pub invariant-loop-spreads : goal.invariant-loop-spreads
invariant-loop-spreads l = string_bytes l.out ≡ string_bytes l.fn.out ++ flat_map spread_line (take l.spreads-index l.apart)

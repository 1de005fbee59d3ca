use Rattle.std.specs.Prelude.{flat_map}
use Rattle.std.proofs.Common.{◌≡◌, ◌++◌, string_bytes, take}
use Rattle.span_report.proofs.text.put_each.Given as goal

-- the lines of those so far
abbrev pub invariant-loop-rows : goal.invariant-loop-rows
invariant-loop-rows g l = string_bytes l.out ≡ string_bytes l.fn.out ++ flat_map g.P.Printed.lines (take l.rows-index l.printed)

use Rattle.std.proofs.Common.{◌≡◌, flat_map, string_bytes, take}
use Rattle.span_faults.specs.Warnings.{warning_line}
use Rattle.span_faults.proofs.warnings.warning_lines.Given as goal

-- the lines of the files so far
abbrev pub invariant-loop-warning : goal.invariant-loop-warning
invariant-loop-warning l = string_bytes l.lines ≡ flat_map warning_line (take l.warning-index l.warning-items)

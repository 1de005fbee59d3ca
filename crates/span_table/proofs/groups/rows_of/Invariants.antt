use Rattle.std.proofs.Common.{◌≡◌, ◌++◌, map}
use Rattle.span_table.specs.Tables.{row_of}
use Rattle.span_table.proofs.groups.rows_of.Given as goal

-- those that were passed, and those that are left
abbrev pub invariant-loop-key : goal.invariant-loop-key
invariant-loop-key l = l.rows.items ++ map row_of l.key-iterator ≡ map row_of l.initial.key-iterator

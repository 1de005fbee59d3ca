use Rattle.std.proofs.Common.{◌≡◌, ◌++◌, map}
use Rattle.span_table.specs.{Adding.keyed_rows, Collected.Takes, Tables.{SumsByKey, row_of}}
use Rattle.span_table.proofs.groups.Groups.add_all.Given as goal

-- those so far were taken
abbrev pub invariant-loop-key : goal.invariant-loop-key
invariant-loop-key l = (done : SumsByKey) × (done ++ l.key-iterator ≡ l.initial.key-iterator) × Takes l.fn.self l.self (keyed_rows (map row_of done))

use Rattle.std.specs.Vec.Iter.{into_iter_items, into_iter_len}
use Rattle.std.proofs.Common.{◌≡◌, ◌++◌, length, map}
use Rattle.span_tasks.specs.{narrowed}
use Rattle.span_tasks.proofs.place.Place.narrowed.Given as goal

-- the tables that were passed are narrowed, and the others are left
abbrev pub invariant-loop-table : goal.invariant-loop-table
invariant-loop-table g l = record {
  made : l.tables.items ≡ map (narrowed l.narrowing) l.yielded;
  left : l.yielded ++ into_iter_items l.table-iterator ≡ into_iter_items l.initial.table-iterator;
  len : into_iter_len l.table-iterator ≡ length (into_iter_items l.table-iterator);
}

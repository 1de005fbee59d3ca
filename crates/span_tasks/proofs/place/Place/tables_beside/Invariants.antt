use Rattle.std.proofs.Common.{take}
use Rattle.span_tasks.specs.Added.{AddsEach}
use Rattle.span_tasks.proofs.place.Place.tables_beside.Given as goal

-- a table of each of the names so far
abbrev pub invariant-loop-name : goal.invariant-loop-name
invariant-loop-name g l = AddsEach (g.S.Source.bytes l.self.source.now) l.parts (take l.name-index l.names) l.tables.items

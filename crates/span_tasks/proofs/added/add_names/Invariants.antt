use Rattle.std.proofs.Common.{List, ◌++◌, take}
use Rattle.span_tasks.specs.{Name, PartSum, Added.{AddsBeside}}
use Rattle.span_tasks.proofs.added.add_names.Given as goal

-- the names so far are added behind those before
abbrev pub invariant-loop-name : goal.invariant-loop-name
invariant-loop-name g l = (kind : PartSum) (done : List Name) → AddsBeside (g.S.Source.bytes l.work.source.now) kind done l.fn.parts → AddsBeside (g.S.Source.bytes l.work.source.now) kind (done ++ take l.name-index l.names) l.added

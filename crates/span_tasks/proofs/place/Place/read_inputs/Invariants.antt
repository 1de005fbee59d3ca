use Rattle.std.proofs.Common.{take}
use Rattle.span_tasks.specs.{AreInputs}
use Rattle.span_tasks.proofs.place.Place.read_inputs.Given as goal

-- the names so far are read
abbrev pub invariant-loop-name : goal.invariant-loop-name
invariant-loop-name g l = AreInputs (g.S.Source.bytes l.self.source.now) l.settings (take l.name-index l.names) l.inputs.items

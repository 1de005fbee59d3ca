use Rattle.std.specs.Prelude.{map}
use Rattle.std.proofs.Common.{take}
use Rattle.span_tasks.specs.Pages.{AreHeld, shown_alone}
use Rattle.span_tasks.proofs.place.Place.show_in_turn.Given as goal

-- the files so far are held
abbrev pub invariant-loop-name : goal.invariant-loop-name
invariant-loop-name g l = AreHeld (map (shown_alone l.settings)) (g.S.Source.bytes l.self.source.now) l.cut (take l.name-index l.names) l.settings l.view l.shown

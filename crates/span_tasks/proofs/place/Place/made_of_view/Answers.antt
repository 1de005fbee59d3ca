use Rattle.std.proofs.Common.{◌≡◌}
use Rattle.span_tasks.proofs.place.Place.made_of_view.Goals as goal

pub returns-clause-warnings : goal.returns-clause-warnings
returns-clause-warnings g c = rw (c.in-Page.is, ← c.deref-in-Page.ensures.value) c.made_of_page.ensures.warnings

pub returns-clause-stop : goal.returns-clause-stop
returns-clause-stop g c = rw (c.in-Page.is, ← c.deref-in-Page.ensures.value) c.made_of_page.ensures.stop

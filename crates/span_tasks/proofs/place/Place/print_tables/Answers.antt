use Rattle.span_tasks.proofs.place.Place.print_tables.Goals as goal

-- what changed
pub returns-in-Changes : goal.returns-in-Changes
returns-in-Changes g c = rw c.in-Changes.is c.print_changes.ensures

-- how numbers are spread
pub returns-in-Repetitions : goal.returns-in-Repetitions
returns-in-Repetitions g c = rw c.in-Repetitions.is c.print_repetitions.ensures

use Rattle.span_runs.proofs.runs.table_of_run.Goals as goal

-- the copy is the schema
pub returns : goal.returns
returns g c = rw (c.in_ok-try_clone.ensures, c.only_name.ensures, c.unread.ensures) at c.of.ensures

use Rattle.span_runs.proofs.names.names_of.Goals as goal

-- there is no list
pub returns-in-Ok-clause-names : goal.returns-in-Ok-clause-names
returns-in-Ok-clause-names g c = rw c.in-None.is (c.in-Ok.ensures (g.S.Source.bytes c.args.source.now))

use Rattle.std.proofs.Common.{sym}
use Rattle.span_read.proofs.ArgMaps.{IsPassed-next, held-IsPassed}
use Rattle.span_read.proofs.arg_map.place_of.Goals as goal

pub returns-in-Equal-clause-held : goal.returns-in-Equal-clause-held
returns-in-Equal-clause-held c = λ value.
    held-IsPassed c.args.pairs.now c.args.name.now c.pairs.place c.pairs.rest.now c.pairs.invariant c.in-Some.pair.now c.in-Some.later.now c.in-Some.ensures.cases.0 (sym c.in-Equal.ensures) value

pub pairs-preserved : goal.pairs-preserved
pairs-preserved c =
    IsPassed-next c.args.pairs.now c.args.name.now c.pairs.place c.pairs.rest.now c.pairs.invariant c.in-Some.pair.now c.in-Some.later.now c.in-Some.ensures.cases.0 (sym c.in-Greater.ensures)

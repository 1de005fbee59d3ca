use Rattle.span_parts.proofs.sums.look_through.Goals as goal

pub returns-in-Ok-clause-is : goal.returns-in-Ok-clause-is
returns-in-Ok-clause-is c = λ text begins.
    let added = c.in-Ok.ensures.added text begins in
    record { part = added.part; is = added.is; by = added.by }

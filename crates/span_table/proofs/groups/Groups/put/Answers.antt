use Rattle.std.proofs.Common.{[], ◌∷◌, subst}
use Rattle.span_table.specs.{Collected.Takes, Tables.SumsByKey}
use Rattle.span_table.proofs.groups.Groups.put.Goals as goal

pub returns-clause-takes : goal.returns-clause-takes
returns-clause-takes c =
    subst (λ (old : SumsByKey). Takes old c.insert.new.self (record { key = c.args.key; step = c.args.more } ∷ [])) (c.in_ok-add_known.ensures.same c.if-branch.false) c.in_ok-insert.ensures.takes

use Rattle.std.specs.Prelude.{OnOk}
use Rattle.std.proofs.Common.{[], ◌∷◌, subst}
use Rattle.span_table.specs.{Collected.Takes, Keys.TableKey, Tables.SumsByKey}
use Rattle.span_table.proofs.groups.Groups.add_copy.Goals as goal

pub returns-clause-takes : goal.returns-clause-takes
returns-clause-takes c =
    let more = c.args.more.now in
    let new = c.insert.new.self in
    subst (λ (key : TableKey). OnOk c.insert.result (Takes c.args.self.now new (record { key = key; step = more } ∷ []))) c.in_ok-key.ensures
    (subst (λ (old : SumsByKey). OnOk c.insert.result (Takes old new (record { key = c.in_ok-key.key; step = more } ∷ []))) (c.in_ok-add_known.ensures.same c.if-branch.false) c.insert.ensures.takes)

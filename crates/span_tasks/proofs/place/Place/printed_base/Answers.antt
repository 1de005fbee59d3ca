use Rattle.std.proofs.Common.{◌∷◌, inl, inr, ap, sym, subst, ◌∙◌}
use Rattle.span_runs.proofs.Stopping.{OfStop-weaker}
use Rattle.span_tasks.specs.{Added.AreOfFirst, Sides.AddTo, Summed.asked_of}
use Rattle.span_tasks.proofs.Adding.{AddTo-kind, Chooses-same, IsOfKind-beside, IsOfKind-first}
use Rattle.span_tasks.proofs.place.Place.printed_base.Goals as goal

-- the first stopped
pub returns-in-Err-clause-stop : goal.returns-in-Err-clause-stop
returns-in-Err-clause-stop g c = rw c.in-Some.ensures.cases.0 (OfStop-weaker _ _ (λ lines stops. inl (inl stops)) c.in-Err.halt c.in-Err.ensures.stop)

-- one behind it stopped
pub returns-in-Err-tables_from-clause-stop : goal.returns-in-Err-tables_from-clause-stop
returns-in-Err-tables_from-clause-stop g c =
    let source = (g.S.Source.bytes c.args.self.now.source.now) in
    let name = c.in-Some.name.now in
    let kind : AreOfFirst source c.args.wanted.options.now (name ∷ c.in-Some.later.now) c.in-Ok.first = (c.in-Ok.ensures.asked, IsOfKind-first source name c.in-Ok.first c.in-Ok.ensures.first) in
    rw c.in-Some.ensures.cases.0 (OfStop-weaker _ _ (λ lines stops. inr (c.in-Ok.first, kind, inl (stops name c.in-Ok.ensures.first))) c.in-Err-tables_from.halt c.in-Err-tables_from.ensures.stop)

-- the tables are of the kind of the first
pub returns-in-Ok-side_of_kind-clause-base : goal.returns-in-Ok-side_of_kind-clause-base
returns-in-Ok-side_of_kind-clause-base g c =
    let source = (g.S.Source.bytes c.args.self.now.source.now) in
    let first = c.in-Ok.first in
    let kind = c.in-Ok-of_none_beside.kind in
    let takes = c.in-Ok-of_none_beside.ensures in
    let asked = c.in-Ok.ensures.asked in
    let side = c.in-Ok-side_of_kind.ensures in
    let tables = AddTo-kind source c.args.wanted.each first kind c.args.names.now c.in-Ok-tables_from.tables.items takes (rw c.in-Some.ensures.cases.0 (c.in-Ok-tables_from.ensures.tables c.in-Some.name.now c.in-Ok.ensures.first)) in
    record {
      asked = rw c.in-Some.ensures.cases.0 (
        Chooses-same (asked_of c.args.wanted.options.now) first kind takes.schema takes.choice asked,
        IsOfKind-beside source c.in-Some.name.now first kind takes (IsOfKind-first source c.in-Some.name.now first c.in-Ok.ensures.first),
      );
      is = (
        record { unit = side.unit; schema = side.schema ∙ ap (λ table. table.schema) takes.sums.adds },
        subst (λ ts. AddTo c.args.wanted.each source kind c.args.names.now ts.items) (sym side.tables) tables,
        side.lines,
      );
    }

use Rattle.std.specs.Prelude.{filter_map, option_to_list, IfSome}
use Rattle.std.proofs.{Common.{rules, ◌≡◌, ◌+◌, [], ◌∷◌, ◌++◌, take, Option, Some, None, sym, ap, subst, ◌∙◌, append-nil}, lemmas.List.{take_more, Elements.All-push}}
use Rattle.span_journal.proofs.Later.{filter_map-push}
use Rattle.span_collect.specs.{Op, ThreadRow, IsGoodOp, Seals.seal_for}
use Rattle.span_collect.proofs.sealing.seals_of.Goals.{in-Some+in_ok-push, in_default}
use Rattle.span_collect.proofs.sealing.seals_of.Goals as goal

pub loop-row-preserved : goal.loop-row-preserved
loop-row-preserved c =
    let rows = c.deref-row-items.result.now in
    let i = c.loop-row.row-index in
    let row = c.row-item.result in
    let f : ThreadRow → Option Op = seal_for c.args.ledger.now.journal in
    let before = filter_map f (take i rows) in
    let more : take (i + 1) rows ≡ take i rows ++ row ∷ [] = take_more rows i row c.loop-row-test.true ∙ ap (λ r. take i rows ++ r ∷ []) (sym c.row-item.is) in
    let all : filter_map f (take (i + 1) rows) ≡ before ++ option_to_list (f row) = ap (filter_map f) more ∙ filter_map-push f (take i rows) row in
    elim c.match-seal_for.branch [
      | in-Some+in_ok-push w ↦
          let seal = w.in-Some.seal in
          let is : f row ≡ Some seal = sym c.seal_for.ensures.seal ∙ w.in-Some.is in
          let items : c.match-seal_for.seals.items ≡ c.loop-row.seals.items ++ seal ∷ [] = search rules in
          let good : IsGoodOp seal = subst (λ (o : Option Op). IfSome o IsGoodOp) w.in-Some.is c.seal_for.ensures.good in
          record {
            seals = items ∙ ap (λ l. l ++ seal ∷ []) c.loop-row.invariant.seals ∙ sym (all ∙ ap (λ o. before ++ option_to_list o) is);
            good = rw items (All-push IsGoodOp c.loop-row.seals.items seal c.loop-row.invariant.good good);
          }
      | in_default w ↦
          let items : c.match-seal_for.seals.items ≡ c.loop-row.seals.items = search rules in
          let none : f row ≡ None = sym c.seal_for.ensures.seal ∙ w.in_default.is in
          record {
            seals = items ∙ c.loop-row.invariant.seals ∙ sym (all ∙ ap (λ o. before ++ option_to_list o) none ∙ append-nil before);
            good = rw items c.loop-row.invariant.good;
          }
    ]

use Rattle.std.proofs.{Common.{◌≡◌, ◌+◌, ◌∷◌, [], ◌++◌, get_or, map, take, sym, ap, subst, ◌∙◌, arith}, lemmas.List.map_more}
use Rattle.span_table.proofs.Searched.{sums_at-own}
use Rattle.span_comparisons.specs.{Row, Changed.Classifies, Changes.{Change, compared_at}}
use Rattle.span_comparisons.proofs.Compared.{Classifies-few}
use Rattle.span_comparisons.proofs.changes.classify_base.Goals as goal

pub classify-requires-clause-same : goal.classify-requires-clause-same
classify-requires-clause-same c =
    let few = Classifies-few c.args.shown.now (map (λ (row : Row). compared_at c.args.base.now c.args.other.now row.key) (take c.loop-row.row-index c.args.base.now)) c.loop-row.found.changes.items c.loop-row.found.same c.loop-row.found.all c.loop-row.invariant.classified in
    omega (arith, few, c.loop-row.invariant.few)

pub loop-row-preserved : goal.loop-row-preserved
loop-row-preserved c =
    let base = c.args.base.now in
    let other = c.args.other.now in
    let at = c.loop-row.row-index in
    let row = c.row-row.result.now in
    let stands = c.row-row.ensures ∙ c.row-item.is ∙ ap (get_or base at) (sym c.row-row.ensures) in
    let make = λ (r : Row). compared_at base other r.key in
    let own = sym (sums_at-own base c.requires.base row at c.loop-row-test.true (sym stands)) in
    let change : Change = record { key = row.key; both = record { base = row.sums; other = c.sums_at.result } } in
    let is : change ≡ make row = λ i. record { key = row.key; both = record { base = own i; other = c.sums_at.ensures i } } in
    let passed : map make (take (at + 1) base) ≡ map make (take at base) ++ make row ∷ [] =
    map_more make base at row c.loop-row-test.true ∙ ap (λ r. map make (take at base) ++ make r ∷ []) (sym stands) in
    record {
      few = omega (arith, c.in_ok-classify.ensures.few, c.loop-row.invariant.few);
      classified = subst (λ keys. Classifies c.args.shown.now keys c.classify.new.found.changes.items c.classify.new.found.same c.classify.new.found.all) (ap (λ ch. map make (take at base) ++ ch ∷ []) is ∙ sym passed)
          (c.in_ok-classify.ensures.classified (map make (take at base)) c.loop-row.invariant.classified);
    }

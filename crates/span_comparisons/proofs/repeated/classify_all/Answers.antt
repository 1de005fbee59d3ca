use Rattle.std.proofs.{Common.{◌≡◌, ◌+◌, Bor, List, ◌∷◌, [], ◌++◌, map, take, sym, ap, ap₂, subst, ◌∙◌, arith}, lemmas.List.map_more}
use Rattle.span_comparisons.specs.{TableKey, SpanTable, Sides.ClassifiesSpreads, Spreads.{Spreads, spreads_at}}
use Rattle.span_comparisons.proofs.repeated.classify_all.Goals as goal

pub loop-key-preserved : goal.loop-key-preserved
loop-key-preserved c =
    let by = c.args.by in
    let keys = c.args.keys.now in
    let at = c.loop-key.key-index in
    let key = c.key-item.result in
    let found = c.classify.new.found in
    let make = λ (k : Bor TableKey). spreads_at by c.args.base.now c.args.other.now k.now in
    let is : c.in_ok-spreads.spreads ≡ make key =
    c.in_ok-spreads.ensures.spreads ∙ ap₂ (λ (b o : List SpanTable). spreads_at by b o key.now) c.loop-key.invariant.base c.loop-key.invariant.other in
    let passed : map make (take (at + 1) keys) ≡ map make (take at keys) ++ make key ∷ [] =
    map_more make keys at key c.loop-key-test.true ∙ ap (λ k. map make (take at keys) ++ make k ∷ []) (sym c.key-item.is) in
    record {
      base = c.in_ok-spreads.ensures.base ∙ c.loop-key.invariant.base;
      other = c.in_ok-spreads.ensures.other ∙ c.loop-key.invariant.other;
      classified = subst (λ spreads. ClassifiesSpreads spreads found.apart.items found.overlap found.same) (ap (λ (s : Spreads). map make (take at keys) ++ s ∷ []) is ∙ sym passed)
          (c.in_ok-classify.ensures.classified (map make (take at keys)) c.loop-key.invariant.classified);
      overlaps = omega (arith, c.in_ok-classify.ensures.overlap, c.loop-key.invariant.overlaps);
      sames = omega (arith, c.in_ok-classify.ensures.same, c.loop-key.invariant.sames);
    }

use Rattle.std.specs.Option.{is_none}
use Rattle.std.proofs.{Common.{map, ap, ◌∙◌}, lemmas.List.take_all}
use Rattle.span_parents.specs.Holding.{spans_of}
use Rattle.span_parents.proofs.Places.{is_none-outer}
use Rattle.span_parents.proofs.holding.outer.Goals as goal

pub returns : goal.returns
returns c =
    let all = c.deref-holder-items.result.now in
    c.loop-holder.invariant ∙ ap (map is_none) (take_all c.loop-holder.holder-index all c.loop-holder-test.false ∙ c.deref-holder-items.ensures.value)
    ∙ is_none-outer (spans_of c.args.spans.now) c.in_ok-holders.holders.items c.in_ok-holders.ensures

use Rattle.std.proofs.{Common.{None, Some, arith, get_or, ap₂, subst, sym, ◌∙◌}, lemmas.List.get_or_read}
use Rattle.span_parents.specs.Nearest.{ArePassed, nowhere, reaches}
use Rattle.span_parents.proofs.Links.{ArePassed-on}
use Rattle.span_parents.proofs.nearest.link_of.Goals as goal

pub loop-link-preserved : goal.loop-link-preserved
loop-link-preserved c =
    let ordered = c.args.ordered.now in
    let links = c.args.links.now in
    let i = c.args.i in
    let before = c.in-Some.before in
    let passed : ArePassed ordered i (Some before) = subst (ArePassed ordered i) c.in-Some.is c.loop-link.invariant in
    let there = get_or_read ordered before c.index-ordered-before.result (omega (arith, passed.0, c.requires.within)) c.index-ordered-before.is nowhere in
    let here = get_or_read ordered i c.index-ordered-i.result c.requires.within c.index-ordered-i.is nowhere in
    let short = sym (ap₂ reaches there here) ∙ sym c.reaches.ensures ∙ c.if-reaches.false in
    ArePassed-on ordered i before c.requires.order c.requires.within passed short (get_or links before None) (c.requires.links before (omega (arith, passed.0, c.requires.count)))

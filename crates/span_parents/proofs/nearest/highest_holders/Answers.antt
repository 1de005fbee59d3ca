use Rattle.std.proofs.{Common.{◌+◌, ◌<◌, None, arith, length, set, ap, ap₂, subst, sym, ◌∙◌}, lemmas.List.{get_or_read, length-map}}
use Rattle.span_parents.specs.{Timed, Holding.spans_of, Nearest.{IsLink, Placed, nowhere, place_at}}
use Rattle.span_parents.proofs.Placing.{ArePlacesOfHighest-all, HavePlaces, HavePlaces-more, HavePlaces-none, place_within}
use Rattle.span_parents.proofs.nearest.highest_holders.Goals as goal

pub index_mut-requires : goal.index_mut-requires
index_mut-requires c =
    let ordered = c.in_ok-ordered.ordered.items in
    let i = c.loop-i.i in
    let within : i < length ordered = omega arith in
    let here = ap (λ (p : Placed). p.place) (c.span.view_is ∙ get_or_read ordered i c.index-span.result.now within c.index-span.ensures nowhere) in
    omega (arith, here, place_within c.args.among (spans_of c.args.spans.now) ordered c.in_ok-ordered.ensures i within, c.loop-i.invariant.count)

pub loop-i-init : goal.loop-i-init
loop-i-init c =
    let spans = c.args.spans.now in
    HavePlaces-none c.args.among (spans_of spans) c.in_ok-ordered.ordered.items c.in_ok-places.places.items
    (omega (arith, c.in_ok-places.ensures.len, length-map spans (λ (t : Timed). t.span)))

pub loop-i-preserved : goal.loop-i-preserved
loop-i-preserved c =
    let spans = spans_of c.args.spans.now in
    let ordered = c.in_ok-ordered.ordered.items in
    let links = c.in_ok-links.links.items in
    let i = c.loop-i.i in
    let within : i < length ordered = omega arith in
    let here = ap (λ (p : Placed). p.place) (c.span.view_is ∙ get_or_read ordered i c.index-span.result.now within c.index-span.ensures nowhere) in
    let counted : i < length links = omega (arith, c.in_ok-links.ensures.count, c.deref.ensures.len) in
    let link = get_or_read links i c.index.result.now counted c.index.ensures None in
    let is = subst (λ all. IsLink all i c.index.result.now) c.deref.ensures.value (subst (IsLink c.deref.result.now i) (sym link) (c.in_ok-links.ensures.links i counted)) in
    let place = c.place_at.ensures ∙ ap (λ all. place_at all c.index.result.now) c.deref-in-loop-i.ensures.value in
    subst (HavePlaces c.args.among spans ordered (i + 1)) (sym (ap₂ (set c.loop-i.places.items) here place))
    (HavePlaces-more c.args.among spans ordered c.in_ok-ordered.ensures i c.loop-i.places.items c.loop-i.invariant c.index.result.now within is)

pub returns : goal.returns
returns c =
    ArePlacesOfHighest-all c.args.among (spans_of c.args.spans.now) c.in_ok-ordered.ordered.items c.in_ok-ordered.ensures c.loop-i.i c.loop-i.places.items c.loop-i.invariant (omega arith)

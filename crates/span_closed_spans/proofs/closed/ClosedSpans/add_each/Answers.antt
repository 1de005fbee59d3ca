use Rattle.std.specs.Vec.Iter.{into_iter_items}
use Rattle.std.proofs.{Common.{◌≡◌, ℕ, List, ◌∷◌, ◌++◌, map, sym, ap, ◌∙◌, subst, append_assoc}, lemmas.List.map-append}
use Rattle.span_self_time.proofs.Apart.{AreClosed-next}
use Rattle.span_closed_spans.specs.{ClosedSpan, Span, span_of, AreClosed}
use Rattle.span_closed_spans.proofs.closed.ClosedSpans.add_each.Goals as goal

-- the spans so far, before the others
split : (old new : List (Span ℕ)) (front back all : List ClosedSpan) → new ≡ old ++ map span_of front → front ++ back ≡ all → old ++ map span_of all ≡ new ++ map span_of back
split old new front back all added left =
    ap (λ l. old ++ map span_of l) (sym left) ∙ ap (λ l. old ++ l) (map-append span_of front back)
    ∙ sym (append_assoc old (map span_of front) (map span_of back)) ∙ ap (λ l. l ++ map span_of back) (sym added)

pub add-requires : goal.add-requires
add-requires c =
    let at = c.loop-span in
    let left : at.yielded ++ c.in-Some.span ∷ into_iter_items c.next.new.self ≡ c.args.spans.items = ap (λ l. at.yielded ++ l) (sym c.in-Some.ensures.steps.0) ∙ at.invariant.left ∙ c.into_iter-span-iterator.ensures.into_iter_gives.0 in
    let all = split c.args.self.now at.self at.yielded (c.in-Some.span ∷ into_iter_items c.next.new.self) c.args.spans.items at.invariant.added left in
    let next = AreClosed-next at.self (span_of c.in-Some.span) (map span_of (into_iter_items c.next.new.self)) (subst AreClosed all c.requires) in
    record { few = next.few; forward = next.forward; in_time = next.in_time; apart = next.apart }

use Rattle.std.proofs.{Common.{rules, w64, to_z, of_z, ◌≡◌, ℕ, ◌+◌, ◌<◌, ◌≢◌, ◌^◌, List, [], ◌∷◌, ◌++◌, map, length, sym, ap, ◌∙◌, subst, arith, All}, lemmas.List.map_push}
use Rattle.span_self_time.proofs.Apart.{AreClosed-append}
use Rattle.span_closed_spans.specs.{ClosedSpan, Span, length_of, span_of, Divides, Totals.{Totals, AreTotals}, TotalsKept.entries_of, declared.name_totals.NameTotal.NameTotal}
use Rattle.span_closed_spans.proofs.{Totals.{AreTotals-append, count-le-length, total-le, length_of-le}, closed.ClosedSpans.add.Goals.{After-deref, After-distance-length}}
use Rattle.span_closed_spans.proofs.closed.ClosedSpans.add.Goals as goal

few : (c : After-deref) → length (map span_of c.self.inside.list.items) + 1 < 2 ^ 32
few c = subst (λ (v : List (Span ℕ)). length v + 1 < 2 ^ 32) (sym c.self.view_is) c.requires.few

apart : (c : After-deref) → All (λ s. s.at ≢ c.args.span.at) (map span_of c.self.inside.list.items)
apart c = subst (λ (v : List (Span ℕ)). All (λ s. s.at ≢ c.args.span.at) v) (sym c.self.view_is) c.requires.apart

totals : (c : After-deref) → AreTotals (entries_of c.reserve.new.self) (map span_of c.self.inside.list.items)
totals c = subst (λ (t : Totals). AreTotals t (map span_of c.self.inside.list.items)) (sym c.reserve.ensures.entries) c.self.invariant.1

-- what the list shows once it has room are the spans so far
listed : (c : After-deref) → c.deref.result.now ≡ c.self.inside.list.items
listed c = c.deref.ensures.value ∙ c.reserve_one.ensures.items

pub add_span-requires-clause-count : goal.add_span-requires-clause-count
add_span-requires-clause-count c =
    let at = (goal.at.add_span-requires-clause-count c).After-deref in
    let held = ap (λ (t : NameTotal). t.count) ((totals at).each c.args.span.name) in
    omega (arith, few at, held, count-le-length (map span_of c.self.inside.list.items) c.args.span.name)

length_is : (c : After-distance-length) → c.distance-length.result ≡ length_of (span_of c.args.span)
length_is c =
    let start : to_z w64 (of_z w64 c.args.span.start) ≡ c.args.span.start = search rules in
    let until : to_z w64 (of_z w64 c.args.span.until) ≡ c.args.span.until = search rules in
    rw (start, until) at c.distance-length.ensures

pub add_span-requires-clause-total : goal.add_span-requires-clause-total
add_span-requires-clause-total c =
    let at = goal.at.add_span-requires-clause-total c in
    let spans = map span_of c.self.inside.list.items in
    let held = ap (λ (t : NameTotal). t.total) ((totals at.After-deref).each c.args.span.name) in
    let most = total-le spans c.args.span.name c.self.invariant.0.are c.self.invariant.0.in_time in
    let more = length_of-le (span_of c.args.span) c.requires.forward c.requires.in_time in
    omega (arith, few at.After-deref, held, most, more, length_is at.After-distance-length)

pub invariant_of-self-2 : goal.invariant_of-self-2
invariant_of-self-2 c =
    let at = goal.at.invariant_of-self-2 c in
    let spans = map span_of c.self.inside.list.items in
    let span = span_of c.args.span in
    let items : c.push_reserved.new.self.items ≡ c.self.inside.list.items ++ c.args.span ∷ [] = c.push_reserved.ensures.items ∙ ap (λ l. l ++ c.args.span ∷ []) c.reserve_one.ensures.items in
    let after : map span_of c.push_reserved.new.self.items ≡ spans ++ span ∷ [] = ap (map span_of) items ∙ map_push span_of c.self.inside.list.items c.args.span in
    let closed = AreClosed-append spans span c.self.invariant.0 (few at.After-deref) c.requires.forward c.requires.in_time (apart at.After-deref) in
    let more = AreTotals-append (entries_of c.reserve.new.self) (entries_of c.add_span.new.self) spans span c.distance-length.result (totals at.After-deref) (length_is at.After-distance-length) c.add_span.ensures.names c.add_span.ensures.each in
    let division : Divides (spans ++ span ∷ []) c.add.new.self = subst (λ (l : List ClosedSpan). Divides (map span_of l ++ span ∷ []) c.add.new.self) (listed at.After-deref) c.in_ok-add.ensures.ok in
    rw after (closed, more, division)

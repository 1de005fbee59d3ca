use Rattle.std.specs.{Option.option_map, Prelude.slice_get}
use Rattle.std.proofs.{Common.{Bool, List, refl, ◌∷◌, [], map, ap, ap₂, subst, sym, ◌∙◌}, lemmas.{List.map_push, Option.{slice_get-map, slice_get_read}, Simd.map-map}}
use Rattle.span_table.specs.{Bytes, Keyed, Span, Timed, timed_spans, thread_events, closed_spans, length_of, spans_of, Collected.{KnowOuter, KnowParents, Takes, outer_at, place_at, span_at}, Columns.value_at, Keys.TableKey, Numbers.has_number, Sums.{only, sums_of_span}, Tables.{called, keyed_span, with_only}, declared.{number.Number.TheVariants.Outer, sums.Sums.Sums}}
use Rattle.span_table.proofs.{Parents.{span_key-known, spans_of-timed, sums_of-known}, Summing.{Takes-all, Takes-next}}
use Rattle.span_table.proofs.collected.RunColumns.add_thread.Goals as goal

pub loop-place-preserved : goal.loop-place-preserved
loop-place-preserved c =
    let columns = c.args.self.now.schema.now.columns in
    let numbers = c.args.self.now.schema.now.numbers in
    let run = c.args.self.now.run.now in
    let thread = c.args.thread in
    let closed = closed_spans (thread_events thread run.journal) in
    let make = λ (t : Timed). with_only numbers (keyed_span columns run thread closed t) in
    let place = c.loop-place.place in
    let timed = c.timed-item.result in
    let places = c.in_ok-places.places.items in
    let are = ap spans_of c.in_ok-spans.ensures.spans ∙ spans_of-timed closed closed in
    let here = sym (ap (λ (all : List (Span Bytes)). slice_get all place) (ap spans_of (c.deref-timed-items.ensures.value) ∙ are)) ∙ slice_get-map (λ (t : Timed). t.span) c.deref-timed-items.result.now place ∙ ap (option_map (λ (t : Timed). t.span)) (slice_get_read c.deref-timed-items.result.now _ place timed refl c.loop-place-test.true c.timed-item.is) in
    let known = subst (λ all. KnowParents columns all places) (ap spans_of c.deref.ensures.value ∙ are) c.in_ok-places.ensures in
    let parent = c.parent_at.ensures ∙ ap₂ (λ all at. option_map called (span_at all (place_at at place))) (ap spans_of c.deref-in-loop-place.ensures.value ∙ are) c.deref-in-loop-place-2.ensures.value in
    let key = ap₂ (λ s p. map (value_at run thread s p) columns) c.of.ensures parent ∙ span_key-known columns run thread closed places place timed.span known here in
    let outer = subst (λ all. KnowOuter (has_number numbers Outer) all c.in_ok-outer.outer.items) (ap spans_of c.deref-2.ensures.value ∙ are) c.in_ok-outer.ensures in
    let sums = ap (λ o. only numbers (sums_of_span (length_of timed.span) timed.self_time o)) (c.outer_at.ensures ∙ ap (λ (l : List Bool). outer_at l place) c.deref-in-loop-place-3.ensures.value) ∙ sums_of-known numbers closed c.in_ok-outer.outer.items place timed outer here in
    let taken = subst (λ (e : Keyed TableKey Sums). Takes c.loop-place.groups c.add_copy.new.self (e ∷ [])) (λ i. record { key = (c.in_ok-put_key.ensures ∙ key) i; step = (c.sums_of-sums.ensures ∙ sums) i }) c.in_ok-add_copy.ensures.takes in
    Takes-next (map make) (λ t. make t ∷ []) (map_push make) c.deref-timed-items.result.now c.args.groups.now place timed c.loop-place.groups c.add_copy.new.self
    c.loop-place-test.true c.timed-item.is c.loop-place.invariant taken

pub returns : goal.returns
returns c =
    let run = c.args.self.now.run.now in
    let numbers = c.args.self.now.schema.now.numbers in
    let of_span = keyed_span c.args.self.now.schema.now.columns run c.args.thread (closed_spans (thread_events c.args.thread run.journal)) in
    let make = λ (t : Timed). with_only numbers (of_span t) in
    let place = c.loop-place.place in
    subst (Takes c.args.groups.now c.loop-place.groups) (ap (map make) (c.deref-timed-items.ensures.value ∙ c.in_ok-spans.ensures.spans) ∙ sym (map-map (with_only numbers) of_span (timed_spans run.journal c.args.thread)))
    (Takes-all (map make) (λ t. make t ∷ []) (map_push make) c.deref-timed-items.result.now c.args.groups.now place c.loop-place.groups c.loop-place-test.false c.loop-place.invariant)

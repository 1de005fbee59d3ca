use Rattle.std.proofs.{Common.{◌≡◌, List, map, sym, ap, ◌∙◌, subst}, lemmas.{List.map-id, Simd.map-map}}
use Rattle.span_keyed_tracks.proofs.Results.{if_ok-map}
use Rattle.span_ledger.specs.{Bytes, Span, Timed, timed_in, with_self_times, Named.AreThreadSpans}
use Rattle.span_ledger.proofs.named_spans.timed_spans.Goals as goal

spans-with_self_times : (spans : List (Span Bytes)) → map (λ t. t.span) (with_self_times spans) ≡ spans
spans-with_self_times spans = map-map (λ (t : Timed). t.span) (timed_in spans) spans ∙ map-id spans

pub returns-clause-are : goal.returns-clause-are
returns-clause-are c =
    let listed : c.deref.result.now ≡ c.in_ok-spans.spans.items = c.deref.ensures.value in
    if_ok-map c.with_self_times.result _ _
    (λ timed is. subst (λ (spans : List (Span Bytes)). AreThreadSpans spans) (sym (ap (map (λ (t : Timed). t.span)) is ∙ spans-with_self_times c.deref.result.now ∙ listed)) c.in_ok-spans.ensures.are)
    c.with_self_times.ensures

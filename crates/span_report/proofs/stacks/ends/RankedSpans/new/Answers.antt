use Rattle.std.proofs.{Common.{◌≡◌, List, length, rules, sym, ap, subst, ◌∙◌}, lemmas.List.take_at}
use Rattle.span_report.specs.{Bytes, Span, Stacks.{Pending.{AreLinks, Rise}, Ticks.ranked}}
use Rattle.span_report.proofs.StackLemmas.Starts.{Rise-ranked}
use Rattle.span_report.proofs.stacks.ends.RankedSpans.new.Goals as goal

pub links_of-requires : goal.links_of-requires
links_of-requires c =
    let spans = c.args.spans.items in
    let count : c.args.spans.len ≡ length spans = search rules in
    let many : length c.sort_by_rank.new.spans ≡ c.args.spans.len = c.sort_by_rank.auto.spans ∙ ap length c.deref_mut.ensures.value ∙ sym count in
    let sorted : c.deref.result.now ≡ ranked spans = c.deref.ensures.value ∙ take_at c.sort_by_rank.new.spans _ c.args.spans.len many ∙ c.sort_by_rank.ensures ∙ ap ranked c.deref_mut.ensures.value in
    subst Rise (sym sorted) (Rise-ranked spans)

pub invariant_of-result : goal.invariant_of-result
invariant_of-result c =
    let spans = c.args.spans.items in
    let count : c.args.spans.len ≡ length spans = search rules in
    let many : length c.sort_by_rank.new.spans ≡ c.args.spans.len = c.sort_by_rank.auto.spans ∙ ap length c.deref_mut.ensures.value ∙ sym count in
    let sorted : c.deref.result.now ≡ ranked spans = c.deref.ensures.value ∙ take_at c.sort_by_rank.new.spans _ c.args.spans.len many ∙ c.sort_by_rank.ensures ∙ ap ranked c.deref_mut.ensures.value in
    (subst (λ (l : List (Span Bytes)). AreLinks 0 l c.in_ok-links.links.items) c.deref.ensures.value c.in_ok-links.ensures, subst Rise (sym sorted ∙ c.deref.ensures.value) (Rise-ranked spans))

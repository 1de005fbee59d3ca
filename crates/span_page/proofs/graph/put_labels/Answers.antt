use Rattle.std.specs.List.{join_with_byte}
use Rattle.std.proofs.{Common.{◌++◌, ◌∷◌, List, flat_map, map, string_bytes, sym, ap, ◌∙◌, append_assoc}, lemmas.List.take_all}
use Rattle.span_page.specs.{Value, json_text_of, Graph.value_label}
use Rattle.span_page.proofs.Joined.{join_with_byte_cons}
use Rattle.span_page.proofs.graph.put_labels.Goals as goal

-- the first label, and each other with a comma before it
pub returns : goal.returns
returns c =
    let before = string_bytes c.args.out.now in
    let later = c.in-Some.later.now in
    let first = json_text_of (value_label c.in-Some.first.now) in
    let commas = flat_map (λ text. 44 ∷ text) (map json_text_of (map value_label later)) in
    (rw (take_all c.loop-value.value-index later c.loop-value-test.false) at c.loop-value.invariant)
    ∙ ap (λ text. text ++ commas) c.in_ok-put_label.ensures
    ∙ append_assoc before first commas
    ∙ ap (λ text. before ++ text) (sym (join_with_byte_cons first (map json_text_of (map value_label later))))
    ∙ ap (λ (values : List Value). before ++ join_with_byte 44 (map json_text_of (map value_label values))) (sym c.in-Some.ensures.cases.0)

use Rattle.std.proofs.{Common.{◌≡◌, ◌++◌, ◌-◌, List, OnOk, drop, length, map, string_bytes, take, sym, ap, ap₂, subst, ◌∙◌, arith}, lemmas.List.{drop-map, length-drop, take_all}}
use Rattle.span_page.specs.{Value, Coded.{Coded, shared}, Data.stack_json, Graph.value_label}
use Rattle.span_page.proofs.graph.put_row.Goals as goal

pub returns : goal.returns
returns c =
    let before = map value_label c.args.before.now in
    let values = c.args.row.now.key in
    let own = c.values-values.result.now in
    let is : own ≡ values = c.values-values.ensures in
    let n = c.shared-shared.result in
    let alike : n ≡ shared before (map value_label values) = c.shared-shared.ensures.alike ∙ ap (λ (vs : List Value). shared before (map value_label vs)) is in
    let behind = take_all (length own - n) (drop n own) (omega (arith, length-drop n own)) in
    let others : map value_label (take (length own - n) (drop n own)) ≡ drop (shared before (map value_label values)) (map value_label values) =
    ap (map value_label) behind ∙ sym (drop-map value_label n own) ∙ ap₂ drop alike (ap (map value_label) is) in
    subst (λ (k : Coded). OnOk c.put_values.result (string_bytes c.put_values.new.out ≡ string_bytes c.args.out.now ++ stack_json k))
    (λ i. record { shared = alike i; others = others i; time = c.args.row.now.sums.total }) c.put_values.ensures

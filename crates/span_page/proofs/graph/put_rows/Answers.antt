use Rattle.std.proofs.{Common.{◌≡◌, ◌++◌, ◌∷◌, [], ◌+◌, ℕ, suc, List, drop, map, string_bytes, refl, sym, ap, ap₂, ◌∙◌, inl, inr, arith}, Math.Seq.drop-cons}
use Rattle.span_page.specs.{Row, Value, Coded.{coded, coded_after}, Data.stack_json, Graph.{folded_row, value_label}}
use Rattle.span_page.proofs.Joined.{joined_after, joined_after-cons, joined_after-nothing}
use Rattle.span_page.proofs.graph.put_rows.Goals as goal

pub loop-row-init : goal.loop-row-init
loop-row-init c =
    record {
      comma = inl refl;
      all = ap (λ (bytes : List ℕ). string_bytes c.args.out.now ++ bytes) (joined_after-nothing (map stack_json (coded_after [] (map folded_row c.args.rows.now))));
    }

-- nothing, or a comma
pub push_str-requires-text-string : goal.push_str-requires-text-string
unfolding lib.Utf8.encode
push_str-requires-text-string c = elim c.loop-row.invariant.comma [
  | inl none ↦ λ lifetimes. ([], (refl, sym none))
  | inr comma ↦ λ lifetimes. (44 ∷ [], (refl, sym comma))
]

-- the row is the first of the rest
pub loop-row-preserved : goal.loop-row-preserved
loop-row-preserved c =
    let rows = c.args.rows.now in
    let index = c.loop-row.row-index in
    let row : Row = c.row-item.result in
    let later = drop (index + 1) rows in
    let before = map value_label c.loop-row.before.now in
    let out = string_bytes c.loop-row.out in
    let comma = c.loop-row.comma.now in
    let text = stack_json (coded before (folded_row row)) in
    let texts = map stack_json (coded_after (map value_label row.key) (map folded_row later)) in
    let one : index + 1 ≡ suc index = omega arith in
    let rest : drop index rows ≡ row ∷ later = drop-cons rows index row c.loop-row-test.true ∙ ap₂ (λ (r : Row) n. r ∷ drop n rows) (sym c.row-item.is) (sym one) in
    record {
      comma = inr refl;
      all = ap₂ (λ (bytes : List ℕ) (values : List Value). bytes ++ joined_after (44 ∷ []) (map stack_json (coded_after (map value_label values) (map folded_row later)))) (c.in_ok-put_row.ensures ∙ ap (λ bytes. bytes ++ text) c.in_ok-push_str.ensures.bytes) c.values-before.ensures
          ∙ sym (joined_after-cons out comma text texts)
          ∙ ap (λ (rs : List Row). out ++ joined_after comma (map stack_json (coded_after before (map folded_row rs)))) (sym rest)
          ∙ c.loop-row.invariant.all;
    }

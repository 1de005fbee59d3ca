use Rattle.std.specs.Prelude.{IsUtf8, flat_map}
use Rattle.std.proofs.{Common.{rules, arith, ◌≡◌, ◌+◌, [], ◌∷◌, ◌++◌, length, take, sym, ap, subst, ◌∙◌, append_assoc, append-nil}, lemmas.{Grind.flat_map-append, List.{take_more, Elements.All-push}, Str.{IsUtf8-append}}}
use Rattle.span_table_text.specs.{Bytes, Row, Schema, Json.{json_head, json_line}, Printed.KeyFits}
use Rattle.span_table_text.proofs.json_lines.text_of.Goals as goal

pub loop-shown-init : goal.loop-shown-init
loop-shown-init c = record {
  text = search rules;
  utf8 = subst IsUtf8 (sym c.in_ok-out.ensures.line)
      (subst (λ l. IsUtf8 (l ++ json_head c.schema-schema.result.now c.args.unit (length c.args.rows.now) c.counts.result)) (sym c.new.ensures.items) c.in_ok-out.ensures.utf8);
  keys = λ k d low. absurd (omega (arith, low));
}

pub loop-shown-preserved : goal.loop-shown-preserved
loop-shown-preserved c =
    let rows = c.args.rows.now in
    let i = c.loop-shown.shown-index in
    let row = c.shown-item.result in
    let schema = c.args.table.now.schema in
    let more : take (i + 1) rows ≡ take i rows ++ row ∷ [] = take_more rows i row c.loop-shown-test.true ∙ ap (λ r. take i rows ++ r ∷ []) (sym c.shown-item.is) in
    let fits : KeyFits schema.columns row.key =
    subst (λ (s : Schema). KeyFits s.columns row.key) c.schema-schema.ensures
    (subst (λ (r : Row). KeyFits c.schema-schema.result.now.columns r.key) c.row.ensures c.in_ok-line.ensures.key_fits) in
    let f : Row → Bytes = json_line schema in
    let head = json_head schema c.args.unit (length rows) c.args.table.now.counts in
    let printed : c.in_ok-line.line.items ≡ c.clear.new.self.items ++ f row =
    subst (λ (s : Schema). c.in_ok-line.line.items ≡ c.clear.new.self.items ++ json_line s row) c.schema-schema.ensures
    (subst (λ (r : Row). c.in_ok-line.line.items ≡ c.clear.new.self.items ++ json_line c.schema-schema.result.now r) c.row.ensures c.in_ok-line.ensures.line) in
    let line : c.in_ok-line.line.items ≡ f row = printed ∙ ap (λ l. l ++ f row) c.clear.ensures.items in
    let appended = c.in_ok-extend_from_slice.ensures.items ∙ ap (λ l. c.loop-shown.out.items ++ l) (c.deref-in-loop-shown-2.ensures.value ∙ line) in
    let utf8 : IsUtf8 (f row) =
    subst (λ (s : Schema). IsUtf8 (json_line s row)) c.schema-schema.ensures
    (subst (λ (r : Row). IsUtf8 (json_line c.schema-schema.result.now r)) c.row.ensures c.in_ok-line.ensures.utf8) in
    let all : flat_map f (take (i + 1) rows) ≡ flat_map f (take i rows) ++ f row =
    ap (flat_map f) more ∙ flat_map-append f (take i rows) (row ∷ []) ∙ ap (λ l. flat_map f (take i rows) ++ l) (append-nil (f row)) in
    record {
      text = appended ∙ ap (λ l. l ++ f row) c.loop-shown.invariant.text ∙ append_assoc head (flat_map f (take i rows)) (f row) ∙ ap (λ l. head ++ l) (sym all);
      utf8 = subst IsUtf8 (sym appended) (IsUtf8-append c.loop-shown.out.items (f row) c.loop-shown.invariant.utf8 utf8);
      keys = rw more (All-push (λ (r : Row). KeyFits schema.columns r.key) (take i rows) row c.loop-shown.invariant.keys fits);
    }

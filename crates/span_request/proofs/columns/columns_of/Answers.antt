use Rattle.std.proofs.Common.{◌≡◌, ◌∙◌, ◌≤◌, List, false, length, map, ap, subst, sym, None, Option, Some, Vec, Global}
use Rattle.std.proofs.lemmas.List.{length-map}
use Rattle.std.proofs.lemmas.Result.{IfOk-weaker}
use Rattle.span_request.specs.{Bytes, Column, Columns.{AreEach, AreNamed}, Lists.{Finds, has_twice, names_in}}
use Rattle.span_request.proofs.columns.columns_of.Goals as goal

-- at most eight names, of which none comes twice, are those of the same columns
found : (names : List Bytes) → length names ≤ 8 → has_twice names ≡ false → (columns : Option (Vec Column Global)) → Finds (AreEach names) columns → Finds (AreNamed names) columns
found names few once (Some columns) each = record { each = each; few = few; once = once }
found names few once None none = λ columns named. none columns named.each

pub returns : goal.returns
returns c =
    let is : map (λ name. name.now) c.deref-2.result.now ≡ names_in c.args.text.now = ap (map (λ name. name.now)) c.deref-2.ensures.value ∙ c.in_ok-names.ensures in
    let same : map (λ name. name.now) c.deref.result.now ≡ names_in c.args.text.now = ap (map (λ name. name.now)) c.deref.ensures.value ∙ c.in_ok-names.ensures in
    let few : length (names_in c.args.text.now) ≤ 8 =
    subst (λ n. n ≤ 8) (c.len.ensures ∙ sym c.deref.ensures.len ∙ sym (length-map c.deref.result.now (λ name. name.now)) ∙ ap length same)
    c.if-len-gt-MOST.false in
    IfOk-weaker c.columns_named.result _ _
    (λ columns finds. found (names_in c.args.text.now) few (sym (c.if-has_twice.ensures ∙ ap has_twice same)) columns (subst (λ names. Finds (AreEach names) columns) is finds))
    c.columns_named.ensures

use Rattle.std.proofs.Common.{◌≡◌, ◌∙◌, List, Option, Some, None, Vec, Global, false, ap, map, subst, sym}
use Rattle.std.proofs.lemmas.Result.{IfOk-weaker}
use Rattle.span_request.specs.{Bytes, Number, Lists.{Finds, has_twice, names_in}, Numbers.{AreCalled, AreNumbersNamed}}
use Rattle.span_request.proofs.numbers.numbers_of.Goals as goal

-- names of which none comes twice are those of the same numbers
found : (names : List Bytes) → has_twice names ≡ false → (numbers : Option (Vec Number Global)) → Finds (AreCalled names) numbers → Finds (AreNumbersNamed names) numbers
found names once (Some numbers) each = record { each = each; once = once }
found names once None none = λ numbers named. none numbers named.each

pub returns : goal.returns
returns c =
    let is : map (λ name. name.now) c.deref-2.result.now ≡ names_in c.args.text.now = ap (map (λ name. name.now)) c.deref-2.ensures.value ∙ c.in_ok-names.ensures in
    let same : map (λ name. name.now) c.deref.result.now ≡ names_in c.args.text.now = ap (map (λ name. name.now)) c.deref.ensures.value ∙ c.in_ok-names.ensures in
    IfOk-weaker c.numbers_named.result _ _
    (λ numbers finds. found (names_in c.args.text.now) (sym (c.if-has_twice.ensures ∙ ap has_twice same)) numbers (subst (λ names. Finds (AreCalled names) numbers) is finds))
    c.numbers_named.ensures

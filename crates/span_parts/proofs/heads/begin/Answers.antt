use Rattle.std.specs.Prelude.{flat_map, IfSome}
use Rattle.std.proofs.{Common.{◌≡◌, Some, None, [], ◌∷◌, ◌++◌, sym, ap, subst, ◌∙◌, append_assoc, length, arith}, lemmas.Str.Pattern.{split_after, split_parts}}
use Rattle.span_parts.specs.{Unit as TimeUnit, json_line, IsPart, SpanTable, First.{IsFirstLine, Says}}
use Rattle.span_parts.proofs.{Added.EndsLine, Whole.{IsNoPart-no_line, begins_so, line-part, rest-part}}
use Rattle.span_parts.proofs.heads.begin.Goals as goal

pub returns-in_default-split_once-clause-fault : goal.returns-in_default-split_once-clause-fault
returns-in_default-split_once-clause-fault c = λ unit part is.
    IsNoPart-no_line c.in-Ok.text.now (λ xs ys whole free. split_after 10 c.in-Ok.text.now xs ys None c.in_default-split_once.ensures.cases (omega arith) whole (λ i lt. free i 0 lt)) unit part
    (subst (λ t. IsPart unit t part) (sym c.in-Ok.ensures.cases.0) is)

pub returns-in-Ok-Some-clause-begins : goal.returns-in-Ok-Some-clause-begins
returns-in-Ok-Some-clause-begins c =
    let text = c.in-Ok.text.now in
    let line = c.in-Some.line.now in
    let rest = c.in-Some.rest.now in
    let cases = c.in-Ok.ensures.cases in
    let first : IsFirstLine line c.in-Ok-Some.first = subst (λ o. IfSome o (IsFirstLine line)) c.in-Ok-Some.field-0-is c.in-Ok-Some.ensures.is in
    let parts = split_parts 10 text (Some (c.in-Some.line, c.in-Some.rest)) c.in-Some.ensures.cases (omega arith) in
    let ends : EndsLine text line rest = λ xs ys whole free. split_after 10 text xs ys (Some (c.in-Some.line, c.in-Some.rest)) c.in-Some.ensures.cases (omega arith) whole (λ i lt. free i 0 lt) in
    let said : (unit : TimeUnit) (part : SpanTable) → IsPart unit c.args.text.now part → Says part.schema unit (length part.rows) part.counts (Some c.in-Ok-Some.first) × (rest ≡ flat_map (json_line part.schema) part.rows) = λ unit part is.
    let own = subst (λ t. IsPart unit t part) (sym cases.0) is in
    let found = c.in-Ok-Some.ensures.found part.schema unit (length part.rows) part.counts (begins_so unit text part own) (line-part text line rest ends unit part own) in
    (subst (Says part.schema unit (length part.rows) part.counts) c.in-Ok-Some.field-0-is found, rest-part text line rest ends unit part own) in
    record {
      utf8 = cases.1;
      may = first.may;
      printed = sym cases.0 ∙ parts.0 ∙ sym (append_assoc line (10 ∷ []) rest) ∙ ap (λ l. l ++ rest) first.printed;
      schema = λ unit part is. sym (said unit part is).0.0;
      unit = λ unit part is. sym (said unit part is).0.1;
      rows = λ unit part is. sym (said unit part is).0.2;
      lines = λ unit part is. (said unit part is).1;
    }

pub returns-in-Ok-None-clause-fault : goal.returns-in-Ok-None-clause-fault
returns-in-Ok-None-clause-fault c = λ unit part is.
    let text = c.in-Ok.text.now in
    let ends : EndsLine text c.in-Some.line.now c.in-Some.rest.now = λ xs ys whole free. split_after 10 text xs ys (Some (c.in-Some.line, c.in-Some.rest)) c.in-Some.ensures.cases (omega arith) whole (λ i lt. free i 0 lt) in
    let own = subst (λ t. IsPart unit t part) (sym c.in-Ok.ensures.cases.0) is in
    let said = c.in-Ok-None.ensures.found part.schema unit _ part.counts (begins_so unit text part own) (line-part text c.in-Some.line.now c.in-Some.rest.now ends unit part own) in
    subst (Says part.schema unit _ part.counts) c.in-Ok-None.field-0-is said

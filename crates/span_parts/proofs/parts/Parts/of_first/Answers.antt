use Rattle.std.specs.Prelude.{IfNone, IfSome}
use Rattle.std.proofs.Common.{◌≡◌, List, [], ap, subst, sym, ◌∙◌}
use Rattle.span_parts.specs.{add_tables, Choice, schema_by, Number, Schema, SpanTable, Sum.{ChoosesOf, IsAdded, IsByThese, PartSum, TakesFirst}}
use Rattle.span_parts.proofs.Taken.{FirstFails-others, FirstFails-sum, IsByThese-same, TakesFirst-added, added-schema}
use Rattle.span_parts.proofs.parts.Parts.of_first.Goals as goal

pub invariant_of-result : goal.invariant_of-result
invariant_of-result c =
    let first = c.in-Ok.begun.0 in
    let taken = c.in-Ok-Some.taken in
    let text = c.args.text.now in
    let old = c.new-sum.result.table in
    let new = c.in-Ok-add_part.sum.table in
    let choice : Choice = record { places = taken.places.items; numbers = taken.schema.numbers } in
    let by = subst (λ f. IfSome f (λ t. t.schema ≡ schema_by (record { places = t.places.items; numbers = t.schema.numbers }) first.schema)) c.in-Ok-Some.field-0-is c.in-Ok-Some.ensures.by in
    let none : old ≡ add_tables (schema_by choice first.schema) [] = c.new-sum.ensures.table ∙ ap (λ s. add_tables s []) by in
    let same : old.schema ≡ schema_by choice first.schema = ap (λ (t : SpanTable). t.schema) none in
    let numbers = c.deref-3.ensures.value ∙ c.in-Ok-copy_of_numbers.ensures ∙ c.deref.ensures.value ∙ ap (λ (s : Schema). s.numbers) c.schema.view_is in
    let chosen : c.of-choice.result ≡ choice = c.of-choice.ensures ∙ (λ i. record { places = c.deref-2.ensures.value i; numbers = numbers i }) in
    let added = subst (λ (k : Choice). IsAdded first.schema first.unit k text old new) chosen (c.in-Ok-add_part.ensures.added text c.in-Ok.ensures.begins) in
    let kept = added-schema first.schema first.unit choice text old new added in
    let begun : IsByThese first.schema (record { places = taken.places.items; numbers = old.schema.numbers }) old = record {
      fit = c.in-Ok.ensures.begins.may.schema_fits;
      by = same ∙ (λ i. schema_by (record { places = taken.places.items; numbers = (sym same i).numbers }) first.schema);
    } in
    IsByThese-same first.schema taken.places.items old new kept begun

pub returns-in-Ok-add_part-clause-sum : goal.returns-in-Ok-add_part-clause-sum
returns-in-Ok-add_part-clause-sum c =
    let first = c.in-Ok.begun.0 in
    let taken = c.in-Ok-Some.taken in
    let text = c.args.text.now in
    let old = c.new-sum.result.table in
    let new = c.in-Ok-add_part.sum.table in
    let choice : Choice = record { places = taken.places.items; numbers = taken.schema.numbers } in
    let by = subst (λ f. IfSome f (λ t. t.schema ≡ schema_by (record { places = t.places.items; numbers = t.schema.numbers }) first.schema)) c.in-Ok-Some.field-0-is c.in-Ok-Some.ensures.by in
    let none : old ≡ add_tables (schema_by choice first.schema) [] = c.new-sum.ensures.table ∙ ap (λ s. add_tables s []) by in
    let same : old.schema ≡ schema_by choice first.schema = ap (λ (t : SpanTable). t.schema) none in
    let numbers = c.deref-3.ensures.value ∙ c.in-Ok-copy_of_numbers.ensures ∙ c.deref.ensures.value ∙ ap (λ (s : Schema). s.numbers) c.schema.view_is in
    let chosen : c.of-choice.result ≡ choice = c.of-choice.ensures ∙ (λ i. record { places = c.deref-2.ensures.value i; numbers = numbers i }) in
    let added = subst (λ (k : Choice). IsAdded first.schema first.unit k text old new) chosen (c.in-Ok-add_part.ensures.added text c.in-Ok.ensures.begins) in
    let kept = added-schema first.schema first.unit choice text old new added in
    let is = subst (λ f. IfSome f (λ t. ChoosesOf c.args.asked.now first.schema (record { places = t.places.items; numbers = t.schema.numbers }))) c.in-Ok-Some.field-0-is c.in-Ok-Some.ensures.is in
    let with : List Number → PartSum = λ numbers. record { unit = first.unit; schema = first.schema; choice = record { places = taken.places.items; numbers = numbers }; sum = new } in
    subst (λ l. TakesFirst c.args.asked.now text (with l)) (sym (ap (λ (s : Schema). s.numbers) (kept ∙ same))) (TakesFirst-added c.args.asked.now first.schema first.unit choice text old new is none added)

pub returns-clause-fault : goal.returns-clause-fault
returns-clause-fault c = FirstFails-sum c.args.asked.now c.args.text.now c.in-Err-add_part.fault (c.in-Err-add_part.ensures.fault c.args.text.now c.in-Ok.ensures.begins)

pub returns-in-Ok-None-clause-fault : goal.returns-in-Ok-None-clause-fault
returns-in-Ok-None-clause-fault c =
    let first = c.in-Ok.begun.0 in
    let none = subst (λ f. IfNone f ((choice : Choice) → ChoosesOf c.args.asked.now first.schema choice → ⊥)) c.in-Ok-None.field-0-is c.in-Ok-None.ensures.none in
    FirstFails-others c.args.asked.now first.schema first.unit c.args.text.now c.fault_of_others.result none (c.fault_of_others.ensures c.args.text.now c.in-Ok.ensures.begins)

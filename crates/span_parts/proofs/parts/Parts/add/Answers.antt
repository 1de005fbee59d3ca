use Rattle.std.proofs.Common.{◌≡◌, List, ap, subst, sym, ◌∙◌}
use Rattle.span_parts.specs.{Choice, Unit as TimeUnit, Number, Schema, Sum.{IsAdded, PartFails, PartSum, TakesPart}}
use Rattle.span_parts.proofs.{Lists.no-both, Taken.{IsByThese-same, PartFails-others, PartFails-sum, TakesPart-added, added-schema}}
use Rattle.span_parts.proofs.parts.Parts.add.Goals as goal

pub invariant_of-result : goal.invariant_of-result
invariant_of-result c =
    let own = c.self.inside in
    let new = c.in-Ok-add_part.sum.table in
    let text = c.args.text.now in
    let choice : Choice = record { places = own.places.items; numbers = own.sum.table.schema.numbers } in
    let numbers = c.deref-3.ensures.value ∙ c.in-Ok-copy_of_numbers.ensures ∙ c.deref.ensures.value ∙ ap (λ (s : Schema). s.numbers) (c.behind-sum.view_is ∙ c.schema.ensures) in
    let chosen : c.of-choice.result ≡ choice = c.of-choice.ensures ∙ (λ i. record { places = c.deref-2.ensures.value i; numbers = numbers i }) in
    let same = c.is_alike.ensures.0 c.if-not-is_alike.false in
    let first = subst (λ (u : TimeUnit). IsAdded c.in-Ok.begun.0.schema u c.of-choice.result text own.sum.table new) same.1 (c.in-Ok-add_part.ensures.added text c.in-Ok.ensures.begins) in
    let by = subst (λ (s : Schema). IsAdded s own.unit c.of-choice.result text own.sum.table new) same.0 first in
    let added = subst (λ (k : Choice). IsAdded own.schema own.unit k text own.sum.table new) chosen by in
    let kept = added-schema own.schema own.unit choice text own.sum.table new added in
    IsByThese-same own.schema own.places.items own.sum.table new kept c.self.invariant

pub returns-in-Ok-add_part-clause-sum : goal.returns-in-Ok-add_part-clause-sum
returns-in-Ok-add_part-clause-sum c =
    let own = c.self.inside in
    let new = c.in-Ok-add_part.sum.table in
    let text = c.args.text.now in
    let choice : Choice = record { places = own.places.items; numbers = own.sum.table.schema.numbers } in
    let numbers = c.deref-3.ensures.value ∙ c.in-Ok-copy_of_numbers.ensures ∙ c.deref.ensures.value ∙ ap (λ (s : Schema). s.numbers) (c.behind-sum.view_is ∙ c.schema.ensures) in
    let chosen : c.of-choice.result ≡ choice = c.of-choice.ensures ∙ (λ i. record { places = c.deref-2.ensures.value i; numbers = numbers i }) in
    let same = c.is_alike.ensures.0 c.if-not-is_alike.false in
    let first = subst (λ (u : TimeUnit). IsAdded c.in-Ok.begun.0.schema u c.of-choice.result text own.sum.table new) same.1 (c.in-Ok-add_part.ensures.added text c.in-Ok.ensures.begins) in
    let by = subst (λ (s : Schema). IsAdded s own.unit c.of-choice.result text own.sum.table new) same.0 first in
    let added = subst (λ (k : Choice). IsAdded own.schema own.unit k text own.sum.table new) chosen by in
    let kept = added-schema own.schema own.unit choice text own.sum.table new added in
    let with : List Number → PartSum = λ numbers. record { unit = own.unit; schema = own.schema; choice = record { places = own.places.items; numbers = numbers }; sum = new } in
    let old : PartSum = record { unit = own.unit; schema = own.schema; choice = choice; sum = own.sum.table } in
    let takes = subst (λ l. TakesPart text old (with l)) (sym (ap (λ (s : Schema). s.numbers) kept)) (TakesPart-added old text new added) in
    subst (λ p. TakesPart text p (with new.schema.numbers)) c.self.view_is takes

pub returns-then-not-is_alike-clause-fault : goal.returns-then-not-is_alike-clause-fault
returns-then-not-is_alike-clause-fault c =
    let own = c.self.inside in
    let first = c.in-Ok.begun.0 in
    let text = c.args.text.now in
    let fault = c.fault_of_others.result in
    subst (λ (p : PartSum). PartFails p.schema p.unit text fault) c.self.view_is
    (PartFails-others own.schema first.schema own.unit first.unit text fault
    (λ one same. no-both c.is_alike.result c.if-not-is_alike.true (c.is_alike.ensures.1 (same, one)))
    (c.fault_of_others.ensures text c.in-Ok.ensures.begins))

pub returns-in-Err-add_part-clause-fault : goal.returns-in-Err-add_part-clause-fault
returns-in-Err-add_part-clause-fault c = PartFails-sum c.args.self.schema c.args.self.unit c.args.text.now c.in-Err-add_part.fault (c.in-Err-add_part.ensures.fault c.args.text.now c.in-Ok.ensures.begins)

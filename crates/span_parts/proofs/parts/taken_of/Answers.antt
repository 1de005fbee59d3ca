use Rattle.std.proofs.Common.{ap, subst, sym, ◌∙◌}
use Rattle.span_parts.specs.{Schema, Sum.{AreAt, FindsPlaces}}
use Rattle.span_parts.proofs.Places.{picked-at}
use Rattle.span_parts.proofs.parts.taken_of.Goals as goal

pub returns-in-Some-clause-by : goal.returns-in-Some-clause-by
returns-in-Some-clause-by c =
    let places = c.in-Some.places.items in
    let wanted = c.in_ok-columns.columns.items in
    let found = subst (λ found. FindsPlaces c.deref-5.result.now c.deref-6.result.now found) c.in-Some.is c.in_ok-places.ensures in
    let columns = c.deref-6.ensures.value ∙ ap (λ (s : Schema). s.columns) c.schema.view_is in
    let at = subst (AreAt places wanted) columns (subst (λ l. AreAt places l c.deref-6.result.now) c.deref-5.ensures.value found) in
    let same = sym (picked-at places wanted c.args.schema.now.columns at) in
    λ i. record { of = (ap (λ (s : Schema). s.of) c.schema.view_is) i; columns = same i; numbers = c.in_ok-numbers.numbers.items }

use Rattle.std.proofs.Common.{List, ap, subst, sym}
use Rattle.span_parts.specs.{Number, SpanTable, Sum.{JoinsParts, PartSum}}
use Rattle.span_parts.proofs.Taken.{IsByThese-same, JoinsParts-added}
use Rattle.span_parts.proofs.parts.Parts.join.Goals as goal

pub invariant_of-result : goal.invariant_of-result
invariant_of-result c =
    let one = c.self.inside in
    IsByThese-same one.schema one.places.items one.sum.table c.in_ok-sum.sum.table (ap (λ (t : SpanTable). t.schema) c.in_ok-sum.ensures.added) c.self.invariant

pub returns : goal.returns
returns c =
    let one = c.self.inside in
    let two = c.other.inside in
    let new = c.in_ok-sum.sum.table in
    let mine : PartSum = record { unit = one.unit; schema = one.schema; choice = record { places = one.places.items; numbers = one.sum.table.schema.numbers }; sum = one.sum.table } in
    let its : PartSum = record { unit = two.unit; schema = two.schema; choice = record { places = two.places.items; numbers = two.sum.table.schema.numbers }; sum = two.sum.table } in
    let with : List Number → PartSum = λ numbers. record { unit = one.unit; schema = one.schema; choice = record { places = one.places.items; numbers = numbers }; sum = new } in
    let both = with new.schema.numbers in
    let same = ap (λ (t : SpanTable). t.schema.numbers) c.in_ok-sum.ensures.added in
    let joined = subst (λ l. JoinsParts mine its (with l)) (sym same) (JoinsParts-added mine its new c.in_ok-sum.ensures.added) in
    subst (λ p. JoinsParts p c.args.other both) c.self.view_is (subst (λ p. JoinsParts mine p both) c.other.view_is joined)

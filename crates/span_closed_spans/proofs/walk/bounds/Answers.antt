use Rattle.std.proofs.{Common.{◌≡◌, ◌+◌, ◌∷◌, drop, map, w64, to_z, of_z, sym, ap, ◌∙◌, arith, rules}, lemmas.{Int.{ints, clamps}, List.drop_more}}
use Rattle.span_closed_spans.specs.{earliest, latest, span_of}
use Rattle.span_closed_spans.proofs.Unbroken.{earliest-le, le-latest}
use Rattle.span_closed_spans.proofs.walk.bounds.Goals as goal

pub loop-span-init : goal.loop-span-init
loop-span-init c =
    let spans = map span_of c.args.spans.now in
    record { first = omega (arith, ints); then = omega (arith, ints); from = omega (arith, ints, clamps, earliest-le spans); until = omega (arith, ints, clamps, le-latest spans) }

pub loop-span-preserved : goal.loop-span-preserved
loop-span-preserved c =
    let i = c.loop-span.span-index in
    let span = c.span-item.result in
    let split : drop i c.args.spans.now ≡ span ∷ drop (i + 1) c.args.spans.now = drop_more c.args.spans.now i span c.loop-span-test.true ∙ ap (λ s. s ∷ drop (i + 1) c.args.spans.now) (sym c.span-item.is) in
    let first = ap (λ l. earliest (map span_of l)) split in
    let last = ap (λ l. latest (map span_of l)) split in
    let start : to_z w64 (of_z w64 span.start) ≡ span.start = search rules in
    let until : to_z w64 (of_z w64 span.until) ≡ span.until = search rules in
    let least : to_z w64 (of_z w64 c.min-earliest.result) ≡ c.min-earliest.result = search rules in
    let greatest : to_z w64 (of_z w64 c.max-latest.result) ≡ c.max-latest.result = search rules in
    record {
      first = search rules;
      then = search rules;
      from = rw least (omega (arith, ints, clamps, first, rw start at c.min-earliest.ensures.value, c.loop-span.invariant.from));
      until = rw greatest (omega (arith, ints, clamps, last, rw until at c.max-latest.ensures.value, c.loop-span.invariant.until));
    }

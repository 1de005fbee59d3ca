use Rattle.std.proofs.Common.{◌≡◌, true, false, cond, map, take, nat_eq, refl, ap, ◌∙◌, arith, take_all, eq-eqb, ne_eqb}
use Rattle.span_self_time.proofs.SelfSums.{self_sum, self_sum-self_of, lasts-read, IsInTime-read}
use Rattle.span_closed_spans.specs.{self_time, span_of}
use Rattle.span_closed_spans.proofs.{RunningSums.{self_sum-more, self_sum-le}, walk.self_of.Goals.{then-span-name, else-span-name}}
use Rattle.span_closed_spans.proofs.walk.self_of.Goals as goal

pub loop-span-init : goal.loop-span-init
unfolding self_sum
loop-span-init c = refl

pub self_time-own-requires-clause-lasts : goal.self_time-own-requires-clause-lasts
self_time-own-requires-clause-lasts c =
    lasts-read c.args.spans.now c.loop-span.span-index c.span-item.result c.requires c.loop-span-test.true c.span-item.is

pub self_time-own-requires-clause-in_time : goal.self_time-own-requires-clause-in_time
self_time-own-requires-clause-in_time c =
    IsInTime-read c.args.spans.now c.loop-span.span-index c.span-item.result c.requires c.loop-span-test.true c.span-item.is

pub overflow_add-own : goal.overflow_add-own
overflow_add-own c =
    omega (arith, c.loop-span.invariant, c.self_time-own.ensures, self_sum-le c.args.name c.args.spans.now c.loop-span.span-index c.span-item.result c.requires c.loop-span-test.true c.span-item.is)

pub loop-span-preserved : goal.loop-span-preserved
loop-span-preserved c =
    let all = map span_of c.args.spans.now in
    let more = self_sum-more all c.args.name c.args.spans.now c.loop-span.span-index c.span-item.result c.loop-span-test.true c.span-item.is in
    elim c.if-span-name.branch [
      | then-span-name w ↦
          let same : nat_eq c.span-item.result.name c.args.name ≡ true = eq-eqb _ _ w.if-span-name.true in
          let added = ap (λ b. cond b (self_time all (span_of c.span-item.result)) 0) same in
          omega (arith, more, added, w.own-is, w.self_time-own.ensures, c.loop-span.invariant)
      | else-span-name w ↦
          let differs : nat_eq c.span-item.result.name c.args.name ≡ false = ne_eqb _ _ w.if-span-name.false in
          let added = ap (λ b. cond b (self_time all (span_of c.span-item.result)) 0) differs in
          omega (arith, more, added, w.own-is, c.loop-span.invariant)
    ]

pub returns : goal.returns
returns c =
    let all = map span_of c.args.spans.now in
    let whole : take c.loop-span.span-index c.args.spans.now ≡ c.args.spans.now = take_all c.loop-span.span-index c.args.spans.now c.loop-span-test.false in
    c.loop-span.invariant ∙ ap (λ l. self_sum all c.args.name (map span_of l)) whole ∙ self_sum-self_of all c.args.name all

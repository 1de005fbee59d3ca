use Rattle.std.proofs.Common.{◌≡◌, ℕ, ◌+◌, Some, [], ap, ◌∙◌, arith}
use Rattle.span_parts.proofs.Picked.{picked-each}
use Rattle.span_parts.proofs.sums.takes_all.Goals as goal

none-passed : (n : ℕ) → n ≡ n + 0
none-passed n = omega arith

pub returns : goal.returns
returns c = λ taken.
    picked-each c.args.places.now [] c.args.values.now (λ n below. c.loop-at.invariant.counts n (omega (arith, below, c.loop-at-test.false)) ∙ ap Some (none-passed n)) (omega (arith, c.if-places-values.false))

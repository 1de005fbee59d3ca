use Rattle.std.specs.Float.Ieee.{nearest}
use Rattle.std.proofs.Common.{◌≡◌, ℕ, suc, ◌+◌, ◌/◌, ◌^◌, sym, ap, ◌∙◌, arith}
use Rattle.span_read.proofs.Times.{compare-lt, compare-eq, compare-gt, unit_is, masked}
use Rattle.span_read.proofs.element.time.shifted_to_nearest.Goals as goal

one_more : (n : ℕ) → n + 1 ≡ suc n
one_more n = omega arith

pub returns-then-twice-unit : goal.returns-then-twice-unit
returns-then-twice-unit c = sym (ap (nearest (c.args.n / 2 ^ c.args.shift)) (compare-lt _ _ (omega (arith, unit_is c.args.shift c.requires.few, masked c.args.n c.args.shift c.requires.few))))

pub returns-then-twice-unit-2 : goal.returns-then-twice-unit-2
returns-then-twice-unit-2 c = sym (ap (nearest (c.args.n / 2 ^ c.args.shift)) (compare-eq _ _ (omega (arith, unit_is c.args.shift c.requires.few, masked c.args.n c.args.shift c.requires.few))))

pub returns-else-twice-unit-2 : goal.returns-else-twice-unit-2
returns-else-twice-unit-2 c = one_more (c.args.n / 2 ^ c.args.shift) ∙ sym (ap (nearest (c.args.n / 2 ^ c.args.shift)) (compare-gt _ _ (omega (arith, unit_is c.args.shift c.requires.few, masked c.args.n c.args.shift c.requires.few))))

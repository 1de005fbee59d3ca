use Rattle.std.proofs.Common.{sym, subst, ◌∙◌, arith}
use Rattle.span_read.proofs.{FloatBits.not_nan, Times.{tiny, shifted, huge}}
use lib.Dec.{T}
use Rattle.span_read.proofs.element.time.size_in_nanoseconds.Goals as goal

pub float_to_bits-bits : goal.float_to_bits-bits
float_to_bits-bits c = not_nan c.args.microseconds c.requires

pub returns-then-exponent-gt1075 : goal.returns-then-exponent-gt1075
returns-then-exponent-gt1075 c = huge c.args.microseconds (subst T (sym c.well_formed.0.1) tt) c.requires c.if-exponent-gt1075.true

pub returns-then-shift-gt63 : goal.returns-then-shift-gt63
returns-then-shift-gt63 c = sym (tiny c.args.microseconds (subst T (sym c.well_formed.0.1) tt) c.requires (omega (arith, c.if-shift-gt63.true)))

pub returns : goal.returns
returns c = c.shifted_to_nearest.ensures ∙ shifted c.args.microseconds (subst T (sym c.well_formed.0.1) tt) c.requires (omega (arith, c.if-shift-gt63.false)) (omega (arith, c.if-exponent-gt1075.false))

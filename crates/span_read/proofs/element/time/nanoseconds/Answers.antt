use Rattle.std.proofs.Common.{sym, ◌∙◌, arith, rules}
use Rattle.span_read.proofs.Times.{nanoseconds-none, nanoseconds-in}
use Rattle.span_read.proofs.element.time.nanoseconds.Goals as goal

pub returns-then-not-is_finite : goal.returns-then-not-is_finite
returns-then-not-is_finite c = sym (nanoseconds-none c.args.microseconds (search rules))

pub returns-then-is_sign_negative : goal.returns-then-is_sign_negative
returns-then-is_sign_negative c = sym (nanoseconds-in c.args.microseconds c.in_ok-size.size (search rules) (search rules) (omega (arith, c.if-size.false)) ∙ search rules)

pub returns-else-is_sign_negative : goal.returns-else-is_sign_negative
returns-else-is_sign_negative c = sym (nanoseconds-in c.args.microseconds c.in_ok-size.size (search rules) (search rules) (omega (arith, c.if-size.false)) ∙ search rules)

use Rattle.std.proofs.Common.{false, arith}
use Rattle.span_read.proofs.document.read_elements.Goals as goal

pub returns-in_err-found-clause-refused : goal.returns-in_err-found-clause-refused
returns-in_err-found-clause-refused c = λ whole no. c.collect_elements.ensures.refused whole (grind arith) false

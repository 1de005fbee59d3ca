use Rattle.std.proofs.Common.{◌≡◌, true, false, sym, ap, rules}
use Rattle.span_read.specs.{Document.{opens_with, doc_of_document}, Ending.closes_array}
use Rattle.span_read.proofs.Unclosed.{read-unclosed}
use Rattle.span_read.proofs.candidates.read_closed.Goals as goal

pub returns-then-not-closes_array : goal.returns-then-not-closes_array
returns-then-not-closes_array g c = λ other.
    let text = c.args.text.now in
    let opens : opens_with 91 text ≡ true = search rules in
    let unclosed : closes_array text ≡ false = search rules in
    ap (doc_of_document c.args.format) (sym (read-unclosed text opens unclosed))

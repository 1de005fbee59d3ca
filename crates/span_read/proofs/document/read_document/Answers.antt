use Rattle.std.proofs.{Common.{arith, rules}, lemmas.Result.IfOk-weaker}
use Rattle.span_read.specs.Divided.{left_of, left_with}
use Rattle.span_read.proofs.{Middles.{left_with-first, left_with-value}, Turns.{array_value, object_value}}
use Rattle.span_read.proofs.document.read_document.Goals as goal

pub returns-in-Object-clause-found : goal.returns-in-Object-clause-found
returns-in-Object-clause-found c =
    IfOk-weaker c.read_object.result _ _ (λ found. object_value c.args.depth (left_of c.args.text.now) (left_with c.next_beginning.new.reader c.args.text.now.middle) (left_of c.read_object.new.text) _ _ (left_with-first c.args.text.now.middle _ c.args.text.now.tokens.reader c.next_beginning.new.reader (grind arith)) (λ ms is. is)) c.read_object.ensures.found

pub returns-in-Array-clause-found : goal.returns-in-Array-clause-found
returns-in-Array-clause-found c =
    IfOk-weaker c.read_elements.result _ _ (λ found. array_value c.args.depth (left_of c.args.text.now) (left_with c.next_beginning.new.reader c.args.text.now.middle) (left_of c.read_elements.new.text) _ _ (left_with-first c.args.text.now.middle _ c.args.text.now.tokens.reader c.next_beginning.new.reader (grind arith)) (λ ds is. is)) c.read_elements.ensures.found

pub returns-in_default-clause-found : goal.returns-in_default-clause-found
returns-in_default-clause-found c = left_with-value c.args.text.now.middle c.args.depth c.args.text.now.tokens.reader c.next_beginning.new.reader _ (search rules)

use Rattle.std.proofs.Common.{refl, arith}
use Rattle.span_read.proofs.Turns.{array_value, object_value}
use Rattle.span_read.proofs.token_fields.ArgValueKeptValue.read.Goals as goal

pub returns-in_ok-pass_object-in-Object-clause-value : goal.returns-in_ok-pass_object-in-Object-clause-value
returns-in_ok-pass_object-in-Object-clause-value c =
    object_value c.args.depth c.args.tokens.now.reader c.next_beginning.new.reader c.pass_object.new.reader _ _ (grind arith) (λ ms any. refl) c.in_ok-pass_object-in-Object.ensures.taken

pub returns-in_ok-pass_array-in-Array-clause-value : goal.returns-in_ok-pass_array-in-Array-clause-value
returns-in_ok-pass_array-in-Array-clause-value c =
    array_value c.args.depth c.args.tokens.now.reader c.next_beginning.new.reader c.pass_array.new.reader _ _ (grind arith) (λ ds any. refl) c.in_ok-pass_array-in-Array.ensures.taken

use Rattle.std.proofs.Common.{refl, sym, ap, ◌∙◌, arith}
use Rattle.span_read.specs.declared.fields.FieldValue.TheVariants.{Pairs}
use Rattle.span_read.proofs.Turns.{array_value, object_value}
use Rattle.span_read.proofs.token_fields.FieldValueKeptValue.read.Goals as goal

pub returns-in_ok-pairs-in-Object-clause-value : goal.returns-in_ok-pairs-in-Object-clause-value
returns-in_ok-pairs-in-Object-clause-value c =
    object_value c.args.depth c.args.tokens.now.reader c.next_beginning.new.reader _ _ _ (grind arith) (λ ms is. ap Pairs (sym (c.in_ok-pairs-in-Object.ensures ∙ is))) c.in_ok-read_members-in-Object.ensures.kept

pub returns-in_ok-pass_array-in-Array-clause-value : goal.returns-in_ok-pass_array-in-Array-clause-value
returns-in_ok-pass_array-in-Array-clause-value c =
    array_value c.args.depth c.args.tokens.now.reader c.next_beginning.new.reader c.pass_array.new.reader _ _ (grind arith) (λ ds any. refl) c.in_ok-pass_array-in-Array.ensures.taken

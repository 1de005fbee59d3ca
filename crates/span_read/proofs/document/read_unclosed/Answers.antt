use Rattle.std.proofs.Common.{◌≡◌, [], ◌∷◌, true, ◌∙◌, arith}
use Rattle.json.specs.{Reads.token_of, Token.begin_array}
use Rattle.span_read.specs.{Divided.{left_of, left_with}, Ending.with_bracket}
use Rattle.span_read.proofs.{Bracket.Whole.{data_of_all-none, data_of_all-closed, data_of_all-other, data_of_all-nothing}, Middles.{left_with-first, left_with-whole}}
use Rattle.span_read.proofs.document.read_unclosed.Goals as goal

pub returns-in_err-token-clause-refused : goal.returns-in_err-token-clause-refused
returns-in_err-token-clause-refused c = λ whole no.
    let empty : c.args.text.now.tokens.reader ≡ [] = grind arith in
    let none : left_of c.args.text.now ≡ [] = left_with-whole c.args.text.now.middle c.args.text.now.tokens.reader whole ∙ empty in
    rw none (data_of_all-nothing c.args.depth)

pub returns-in_default-clause-refused : goal.returns-in_default-clause-refused
returns-in_default-clause-refused c = λ whole no.
    let first = left_with-first c.args.text.now.middle (token_of c.in_ok-token.token) c.args.text.now.tokens.reader c.next.new.self (grind arith) in
    rw first (data_of_all-other c.args.depth c.in_ok-token.token _ c.in_default.not-BeginArray)

pub returns-in_err-found-clause-refused : goal.returns-in_err-found-clause-refused
returns-in_err-found-clause-refused c = λ whole no.
    let opened = left_with-first c.args.text.now.middle begin_array c.args.text.now.tokens.reader c.next.new.self (grind arith) in
    rw opened (data_of_all-none c.args.depth (begin_array ∷ with_bracket (left_with c.next.new.self c.args.text.now.middle)) (c.collect_elements.ensures.refused whole (grind arith) true))

pub returns-in_default-Bracket-clause-refused : goal.returns-in_default-Bracket-clause-refused
returns-in_default-Bracket-clause-refused c = λ whole no.
    let opened = left_with-first c.args.text.now.middle begin_array c.args.text.now.tokens.reader c.next.new.self (grind arith) in
    let taken = rw c.in_default-Bracket.is-1 at c.in_ok-found.ensures.found in
    rw opened (data_of_all-closed c.args.depth (begin_array ∷ left_with c.next.new.self c.args.text.now.middle) _ _ taken.1)

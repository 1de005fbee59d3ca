use Rattle.std.proofs.Common.{◌≡◌, ◌∷◌, None, refl, sym, ap, ◌∙◌, arith}
use Rattle.json.specs.{Json.value, Reads.token_of, Token.Token}
use Rattle.serde_json.specs.{Data.{string, boolean, null}, Read.{of_json, number_of, converted}}
use Rattle.json.proofs.Grammar.{value_is}
use Rattle.span_read.specs.Tokens.{data_at}
use Rattle.span_read.proofs.Leaves.{number_taken, number_refused}
use Rattle.span_read.proofs.tokens.beginning.beginning_of.Goals as goal

pub returns-in-String-clause-beginning : goal.returns-in-String-clause-beginning
returns-in-String-clause-beginning c = λ ts.
    let is : token_of c.args.token ∷ ts ≡ Token.string c.in-String.text.now ∷ ts = grind arith in
    record { found = string c.in-String.text.now; reads = λ depth. ap (data_at depth) is ∙ ap (converted of_json) (value_is depth _); leaf = refl; kind = refl }

pub returns-in-Bool-clause-beginning : goal.returns-in-Bool-clause-beginning
returns-in-Bool-clause-beginning c = λ ts.
    let is : token_of c.args.token ∷ ts ≡ Token.boolean c.in-Bool.flag ∷ ts = grind arith in
    record { found = boolean c.in-Bool.flag; reads = λ depth. ap (data_at depth) is ∙ ap (converted of_json) (value_is depth _); leaf = refl; kind = refl }

pub returns-in-Null-clause-beginning : goal.returns-in-Null-clause-beginning
returns-in-Null-clause-beginning c = λ ts.
    let is : token_of c.args.token ∷ ts ≡ Token.null ∷ ts = grind arith in
    record { found = null; reads = λ depth. ap (data_at depth) is ∙ ap (converted of_json) (value_is depth _); leaf = refl; kind = refl }

pub returns-in-EndObject-clause-refused : goal.returns-in-EndObject-clause-refused
returns-in-EndObject-clause-refused c = λ depth ts.
    let none : value depth (token_of c.args.token ∷ ts) ≡ None = rw value_is (grind arith) in
    ap (converted of_json) none

pub returns-in-Whole-clause-beginning : goal.returns-in-Whole-clause-beginning
returns-in-Whole-clause-beginning c = λ ts.
    let is : token_of c.args.token ∷ ts ≡ Token.number c.in-Number.text.now ∷ ts = grind arith in
    let leaf = number_taken c.in-Number.text.now _ ts is (number_of c.in-Number.text.now) _ refl (sym c.in-Whole.ensures) in
    grind (arith, leaf)

pub returns-in-Float-clause-beginning : goal.returns-in-Float-clause-beginning
returns-in-Float-clause-beginning c = λ ts.
    let is : token_of c.args.token ∷ ts ≡ Token.number c.in-Number.text.now ∷ ts = grind arith in
    let leaf = number_taken c.in-Number.text.now _ ts is (number_of c.in-Number.text.now) _ refl (sym c.in-Float.ensures) in
    grind (arith, leaf)

pub returns-in-Other-clause-beginning : goal.returns-in-Other-clause-beginning
returns-in-Other-clause-beginning c = λ ts.
    let is : token_of c.args.token ∷ ts ≡ Token.number c.in-Number.text.now ∷ ts = grind arith in
    number_taken c.in-Number.text.now _ ts is (number_of c.in-Number.text.now) _ refl (sym c.in-Other.ensures)

pub returns-in-TooLarge-clause-refused : goal.returns-in-TooLarge-clause-refused
returns-in-TooLarge-clause-refused c = λ depth ts.
    let is : token_of c.args.token ∷ ts ≡ Token.number c.in-Number.text.now ∷ ts = grind arith in
    number_refused c.in-Number.text.now _ ts is (number_of c.in-Number.text.now) refl (sym c.in-TooLarge.ensures) depth

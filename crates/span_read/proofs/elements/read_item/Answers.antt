use Rattle.std.proofs.Common.{◌≡◌, ◌∷◌, refl, sym, ap, ◌∙◌, arith}
use Rattle.json.specs.{Reads.token_of, Token.Token}
use Rattle.span_read.specs.Element.{item_of_fields}
use Rattle.span_read.proofs.Turns.{array_value, object_value}
use Rattle.span_read.proofs.elements.read_item.Goals as goal

pub returns-in_ok-item_of_fields-in-Object-clause-item : goal.returns-in_ok-item_of_fields-in-Object-clause-item
returns-in_ok-item_of_fields-in-Object-clause-item c =
    let ts = c.args.tokens.now.reader in
    let opened : token_of c.args.token ∷ ts ≡ Token.begin_object ∷ ts = grind (arith, c.in_ok-beginning_of.ensures.beginning ts) in
    object_value c.args.depth _ ts _ _ _ opened (λ ms is. ap (item_of_fields c.args.unit) (sym is) ∙ sym c.in_ok-item_of_fields-in-Object.ensures) c.in_ok-read_members-in-Object.ensures.kept

pub returns-in_ok-pass_array-in-Array-clause-item : goal.returns-in_ok-pass_array-in-Array-clause-item
returns-in_ok-pass_array-in-Array-clause-item c =
    let ts = c.args.tokens.now.reader in
    let opened : token_of c.args.token ∷ ts ≡ Token.begin_array ∷ ts = grind (arith, c.in_ok-beginning_of.ensures.beginning ts) in
    array_value c.args.depth _ ts _ _ _ opened (λ ds any. refl) c.in_ok-pass_array-in-Array.ensures.taken

pub returns-in_err-read_members-in-Object-clause-refused : goal.returns-in_err-read_members-in-Object-clause-refused
returns-in_err-read_members-in-Object-clause-refused c = λ no.
    let ts = c.args.tokens.now.reader in
    let opened : token_of c.args.token ∷ ts ≡ Token.begin_object ∷ ts = grind (arith, c.in_ok-beginning_of.ensures.beginning ts) in
    rw opened (c.read_members.ensures.refused (grind arith))

pub returns-in_err-pass_array-in-Array-clause-refused : goal.returns-in_err-pass_array-in-Array-clause-refused
returns-in_err-pass_array-in-Array-clause-refused c = λ no.
    let ts = c.args.tokens.now.reader in
    let opened : token_of c.args.token ∷ ts ≡ Token.begin_array ∷ ts = grind (arith, c.in_ok-beginning_of.ensures.beginning ts) in
    rw opened c.in_err-pass_array-in-Array.ensures.refused

pub returns-in_default : goal.returns-in_default
returns-in_default c = let begun = c.in_ok-beginning_of.ensures.beginning c.args.tokens.now.reader in grind (arith, begun)

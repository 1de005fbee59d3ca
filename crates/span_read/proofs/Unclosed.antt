-- An array whose closing bracket is missing doesn't read.
use Rattle.std.specs.List.{suffix_len}
use Rattle.std.proofs.{Common.{◌≡◌, ℕ, ◌+◌, ◌-◌, ◌≤◌, List, [], ◌∷◌, length, take, get_or, Option, Some, None, option_and_then, true, false, ◌==◌, refl, sym, ap, ◌∙◌, arith}, lemmas.List.{get_or-take, length-take-le, Sums.suffix_len_is}}
use Rattle.json.specs.{Json.{Json, value, if_last}, Lex.{Lexeme, token, between, lex, fresh, punctuate, tokens}, Token.{Token, begin_array}}
use Rattle.serde_json.specs.{Data.Data, Read.{read, of_json}}
use Rattle.json.proofs.Grammar.{left}
use Rattle.span_read.specs.{Document.{is_blank, opens_with, without_trailing_blanks}, Ending.closes_array}
use Rattle.span_read.proofs.{Ends.array_ends, LastByte.{ClosesAt, ClosesAt-tokens}, Opening.opens_array-lex}

begins : (ls rest : List Lexeme) → ls ≡ token begin_array ∷ rest → punctuate fresh ls ≡ begin_array ∷ punctuate fresh rest
unfolding punctuate
begins ls rest is = ap (punctuate fresh) is

closes : (text : List ℕ) → opens_with 91 text ≡ true → left (value 127 (tokens text)) ≡ Some [] → ClosesAt text
closes text opens all =
    let ls = opens_array-lex text opens in
    let first : tokens text ≡ begin_array ∷ punctuate fresh ls.0 = begins (lex between text) ls.0 ls.1 in
    let last = array_ends 127 (punctuate fresh ls.0) (ap (λ ts. left (value 127 ts)) (sym first) ∙ all) in
    ClosesAt-tokens text (last.0, first ∙ last.1)

-- the value of all tokens
abbrev whole : Option (Json × List Token) → Option Data
whole o = option_and_then of_json (option_and_then (λ p. if_last p.0 p.1) o)

unread : (text : List ℕ) (o : Option (Json × List Token)) → value 127 (tokens text) ≡ o → opens_with 91 text ≡ true → (ClosesAt text → ⊥) → whole o ≡ None
unread text None is opens unclosed = refl
unread text (Some (j, [])) is opens unclosed = absurd (unclosed (closes text opens (ap left is)))
unread text (Some (j, t ∷ r)) is opens unclosed = refl

closes_array-ClosesAt : (text : List ℕ) → ClosesAt text → closes_array text ≡ true
closes_array-ClosesAt text s =
    let end = s.place + 1 in
    let within : end ≤ length text = omega (arith, s.within) in
    let bracket_stays : is_blank (get_or text (end - 1) 0) ≡ false = let last : end - 1 ≡ s.place = omega arith in ap (λ i. is_blank (get_or text i 0)) last ∙ ap is_blank s.bracket in
    let blanks = suffix_len_is is_blank text end 0 within (λ k past inside. s.blanks k (omega arith) inside) (λ some. bracket_stays) in
    let kept : length text - suffix_len is_blank text ≡ end = omega arith in
    let trimmed : without_trailing_blanks text ≡ take end text = ap (λ n. take n text) kept in
    let last : length (take end text) - 1 ≡ s.place = omega (arith, length-take-le end text within) in
    let byte : get_or (take end text) (length (take end text) - 1) 0 ≡ 93 = ap (λ i. get_or (take end text) i 0) last ∙ get_or-take end text s.place 0 (omega arith) ∙ s.bracket in
    ap (λ t. get_or t (length t - 1) 0 == 93) trimmed ∙ ap (λ b. b == 93) byte

pub read-unclosed : (text : List ℕ) → opens_with 91 text ≡ true → closes_array text ≡ false → read text ≡ None
read-unclosed text opens unclosed = unread text (value 127 (tokens text)) refl opens (λ s. let clash : true ≡ false = sym (closes_array-ClosesAt text s) ∙ unclosed in cc)

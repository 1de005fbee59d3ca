use Rattle.std.proofs.Common.{◌≡◌, List, [], ◌∷◌, ◌++◌, map, sym, ap, subst, append-nil, append_assoc, true≢false, ◌∙◌}
use Rattle.json.specs.{Reads.token_of, Token.{Token, end_array, string}}
use Rattle.span_parts.specs.{Bytes, Number, has_number, number_name, Guess.MayFollowNumbers}
use Rattle.span_parts.proofs.{Lists.Some-same, Numbered.next_number}
use Rattle.span_parts.proofs.guess.+put_named.Goals as goal

-- where no name is next, no numbers follow
none-follow : (tokens rest : List Token) (numbers later : List Number) → ((name : Bytes) (more : List Token) → tokens ≡ string name ∷ more → ⊥) → tokens ≡ map string (map number_name later) ++ end_array ∷ rest →
    (tokens ≡ end_array ∷ rest) × (numbers ≡ numbers ++ later)
none-follow tokens rest numbers [] none is = (is, sym (append-nil numbers))
none-follow tokens rest numbers (n ∷ later) none is = absurd (none (number_name n) (map string (map number_name later) ++ end_array ∷ rest) is)

pub returns-in_default : goal.returns-in_default
returns-in_default t c = λ later rest may is. none-follow (map token_of c.args.tokens.now) rest c.args.numbers.now.items later (λ name more next. c.in_default.ensures.none name more next) is

pub returns-in_default-named : goal.returns-in_default-named
returns-in_default-named t c = λ later rest may is.
    let next = next_number c.args.numbers.now.items later c.in-Some.name.now (map token_of c.in-Some.rest.now) rest may (sym c.in-Some.ensures.text ∙ is) in
    absurd (c.in_default-named.not-Some next.number (c.named.ensures ∙ next.named))

pub returns-then-has_number : goal.returns-then-has_number
returns-then-has_number t c = λ later rest may is.
    let old = c.args.numbers.now.items in
    let next = next_number old later c.in-Some.name.now (map token_of c.in-Some.rest.now) rest may (sym c.in-Some.ensures.text ∙ is) in
    let same = Some-same c.in-Some-named.number next.number (sym c.in-Some-named.is ∙ c.named.ensures ∙ next.named) in
    absurd (true≢false (sym c.if-has_number.true ∙ c.has_number.ensures ∙ ap (λ l. has_number l c.in-Some-named.number) c.deref.ensures.value ∙ ap (has_number old) same ∙ next.fresh))

-- the number that was found is the first of those that follow
pub returns-in-Ok : goal.returns-in-Ok
returns-in-Ok t c = λ later rest may is.
    let old = c.args.numbers.now.items in
    let next = next_number old later c.in-Some.name.now (map token_of c.in-Some.rest.now) rest may (sym c.in-Some.ensures.text ∙ is) in
    let same = Some-same c.in-Some-named.number next.number (sym c.in-Some-named.is ∙ c.named.ensures ∙ next.named) in
    let items = c.in_ok-push.ensures.items ∙ ap (λ (n : Number). old ++ n ∷ []) same in
    let left = c.in-Ok.ensures next.others rest (subst (λ l. MayFollowNumbers l next.others) (sym items) next.follow) next.next in
    (left.0, left.1 ∙ ap (λ l. l ++ next.others) items ∙ append_assoc old (next.number ∷ []) next.others ∙ ap (λ l. old ++ l) (sym next.split))

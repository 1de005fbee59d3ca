use Rattle.std.proofs.Common.{◌≡◌, ◌<◌, List, [], ◌∷◌, ◌++◌, Some, arith, drop, length, refl, sym, ap, subst, ◌∙◌}
use Rattle.json.specs.{Token.{Token, begin_object, end_object}}
use Rattle.span_parts.specs.{Number, Sums, only, AreDistinct, key_tokens, sums_tokens}
use Rattle.span_parts.proofs.guess.row_of.Goals as goal

-- the tokens of some numbers of a row, and the end of its line
abbrev ended : List Number → Sums → List Token
ended numbers sums = sums_tokens numbers sums ++ end_object ∷ []

-- there is a first number
record First (numbers : List Number) : Type 0 where
  pub number : Number
  pub later : List Number
  pub split : numbers ≡ number ∷ later

first : (numbers : List Number) → 0 < length numbers → First numbers
first [] some = absurd (omega (arith, some))
first (number ∷ later) some = record { number = number; later = later; split = refl }

pub returns-in-Some-put_sums : goal.returns-in-Some-put_sums
returns-in-Some-put_sums c = λ schema row are fits same named is.
    let f = first schema.numbers are.numbers.some in
    let numbers = ap (λ l. ended l row.sums) f.split in
    let next = c.in-Some.ensures begin_object _ is ∙ ap (λ l. key_tokens schema.columns row.key ++ l) numbers in
    let found = c.in_ok-key.ensures f.number schema.columns row.key (drop 1 (ended (f.number ∷ f.later) row.sums)) (subst AreDistinct (sym named) are.columns.distinct) fits.key named next in
    let sums = c.in-Some-put_sums.ensures row.sums (end_object ∷ []) fits.fits (found.1 ∙ sym numbers ∙ ap (λ l. ended l row.sums) (sym same)) in
    let own = sums.1 ∙ ap (λ l. only l row.sums) same ∙ sym fits.own in
    λ i. Some (record { key = found.0 i; sums = own i })

pub returns-in-None : goal.returns-in-None
returns-in-None c = λ schema row are fits same named is.
    let f = first schema.numbers are.numbers.some in
    let numbers = ap (λ l. ended l row.sums) f.split in
    let next = c.in-Some.ensures begin_object _ is ∙ ap (λ l. key_tokens schema.columns row.key ++ l) numbers in
    let found = c.in_ok-key.ensures f.number schema.columns row.key (drop 1 (ended (f.number ∷ f.later) row.sums)) (subst AreDistinct (sym named) are.columns.distinct) fits.key named next in
    absurd (c.in-None.ensures row.sums (end_object ∷ []) fits.fits (found.1 ∙ sym numbers ∙ ap (λ l. ended l row.sums) (sym same))).0

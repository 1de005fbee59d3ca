use Rattle.std.specs.{Cmp.Lexicographic.nat_list_eq_equiv, List.{position_or_len, list_any}}
use Rattle.std.proofs.Common.{rules, ◌≡◌, ℕ, List, [], ◌∷◌, ◌++◌, false, Some, None, length, ap, ◌∙◌, refl}
use Rattle.indexmap.specs.IndexSet.{insert_key}
use Rattle.span_names.specs.{same_text, Numbering.number_in}
use Rattle.span_names.proofs.Places.{position_or_len-None, list_any-None, position-append}
use Rattle.span_names.proofs.names.Names.add.Goals as goal

-- a text that is new goes last, under the number of its place
number_in-insert_key : (names after : List (List ℕ)) (text copy : List ℕ) (n : ℕ) → number_in names text ≡ None → copy ≡ text → after ≡ insert_key same_text names copy → n ≡ position_or_len (same_text copy) names → number_in after text ≡ Some n
number_in-insert_key names after text copy n none copied inserted place =
    let turned : same_text copy ≡ (λ (name : List ℕ). same_text name text) = λ i name. (nat_list_eq_equiv.symm copy name ∙ ap (same_text name) copied) i in
    let last = position_or_len-None (λ name. same_text name text) names none in
    let new : list_any (same_text copy) names ≡ false = rw turned (list_any-None (λ name. same_text name text) names last) in
    let added : after ≡ names ++ text ∷ [] = inserted ∙ rw (new, copied) refl in
    let found = position-append (λ name. same_text name text) names text none (nat_list_eq_equiv.refl text) in
    let at_end : n ≡ length names = place ∙ ap (λ p. position_or_len p names) turned ∙ last in
    rw (added, at_end) found

pub returns-clause-number : goal.returns-clause-number
returns-clause-number c =
    let none : number_in c.self.inside.texts.keys c.args.text.now ≡ None = cc in
    let copied : c.in_ok-copy.copy ≡ c.args.text.now = search rules in
    number_in-insert_key _ _ _ _ _ none copied c.in_ok-index.ensures.keys c.in_ok-index.ensures.index
